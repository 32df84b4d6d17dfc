pub mod NoisePolynomial
