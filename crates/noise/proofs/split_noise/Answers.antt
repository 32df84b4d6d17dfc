-- The checks' verdict; a refusal comes before anything is written, and behind the checks there is room for all words.
use mathlib.Core.Path.{◌≡◌, ap, ◌∙◌}
use mathlib.Core.List.{List}
use Prim.Native.Nat.{ℕ, ◌*◌}
use native.Mathlib.Omega.{arith}
use Rattle.buffers.specs.Overwrite.{overwrite}
use Rattle.std.specs.Prelude.{Ok}
use Rattle.checks.specs.Answers.{outcome}
use Rattle.checks.proofs.Settles.{checks-hold, settles_accepted, settles_refused}
use Rattle.noise.specs.Split.{x_bit, y_bit, noise_shares, targets, noise_split}
use Rattle.noise.specs.Accepted.{Noise, noise}
use Rattle.noise.proofs.split_noise.Goals as goal
use Rattle.noise.proofs.split_noise.Goals.{In_ok-check_noise}

fit : (c : In_ok-check_noise) → let a = c.args in Noise a.n a.set a.bytes.now a.x.now a.y.now
fit c = let a = c.args in noise a.n a.set a.bytes.now a.x.now a.y.now (checks-hold _ _ c.check_noise.ensures c.in_ok-check_noise.was)

-- with the k of the set
written : (n k k' : ℕ) (bytes x y x' y' : List ℕ) → k ≡ k' → x' ≡ overwrite x 0 (noise_shares x_bit n k bytes) → y' ≡ overwrite y 0 (noise_shares y_bit n k bytes) → targets x' y' ≡ targets (overwrite x 0 (noise_shares x_bit n k' bytes)) (overwrite y 0 (noise_shares y_bit n k' bytes))
written n k k' bytes x y x' y' e d h = rw (d, h, e)

pub returns-in_err-check_noise : goal.returns-in_err-check_noise
unfolding noise_split
returns-in_err-check_noise c = settles_refused _ _ c.check_noise.ensures _ _ _ _ c.in_err-check_noise.was c.from_residual.ensures.1

pub split_strings-requires : goal.split_strings-requires
split_strings-requires c =
    let h = fit (goal.at.split_strings-requires c).In_ok-check_noise in
    let e = c.bits_of.ensures in
    (h.eight, rw e h.of.two, rw e h.of.three, rw e (omega (arith, h.count)), h.x-room, h.y-room)

pub overflow_mul-result : goal.overflow_mul-result
overflow_mul-result c = omega (arith, (fit (goal.at.overflow_mul-result c).In_ok-check_noise).eight)

pub returns : goal.returns
unfolding noise_split
returns c =
    let a = c.args in
    let e = c.bits_of.ensures in
    let s = c.split_strings.ensures in
    ap (outcome (Ok (256 * a.n))) (written a.n _ _ a.bytes.now a.x.now a.y.now _ _ e s.0 s.1)
    ∙ settles_accepted _ _ c.check_noise.ensures _ _ _ c.in_ok-check_noise.was
