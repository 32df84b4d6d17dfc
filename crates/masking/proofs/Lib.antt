pub mod MaskOpen
