-- The shares of a sample, opened and centred, give what the plain weight difference of the opened strings gives.
use Rattle.std.specs.Prelude.{◌≡◌, List, ℕ, ◌^◌, ◌≤◌, ◌<◌, nat_abs, take, is_none}
use Rattle.std.proofs.Common.{sym, ◌∙◌, le-leb, lt-ltb, eq-eqb}
use Rattle.std.proofs.Math.Path.{ap}
use Rattle.std.proofs.Math.ListN.{length}
use Rattle.residue.specs.Residue.{reduce, reduceℤ, total, EachBelow}
use Rattle.residue.proofs.Integers.{minus_le}
use Rattle.checks.specs.Checks.{accepted}
use Rattle.checks.specs.Laws.{Hold, accepts, each-below-none}
use Rattle.masking.specs.Sharing.{xor_all, open_residue_checks, opened_residue, open_string_checks, opened_string}
use Rattle.masking.specs.Xor.{xor_all_lt}
use Rattle.binomial.specs.Signed.{weight, difference_of_weights, centred_value, centred, weight_checks, weight_difference}
use Rattle.binomial.specs.Weight.{weight_le}
use Rattle.binomial.proofs.Centring.{centred-value, centred-sample}
use Rattle.totals.specs.Sample.{sample_shares}
use Rattle.sampler.specs.Sampler.{pair_checks, sample_checks, sampled}
use Rattle.sampler.specs.Secrecy.{SharesOf}
use Rattle.sampler.specs.Accepted.{SharedPair, pair-large, shared_pair, call-checks}
use Rattle.sampler.proofs.Calls.{length-shares, shares-below, shares-residue, call-samples}

module _ {n k q : ℕ} {x y : List ℕ} (P : SharedPair n k q x y) where
  x_lt : xor_all x < 2 ^ k
  x_lt = xor_all_lt k x P.x-narrow

  y_lt : xor_all y < 2 ^ k
  y_lt = xor_all_lt k y P.y-narrow

  -- the sample is from -k to k
  pub sample_le : nat_abs (difference_of_weights (xor_all x) (xor_all y)) ≤ k
  sample_le = minus_le k (weight (xor_all x)) (weight (xor_all y)) (weight_le k (xor_all x) P.sixteen x_lt) (weight_le k (xor_all y) P.sixteen y_lt)

  -- the residue of the shares, centred, is the sample
  pub shares-centred : (words : List ℕ) → centred_value q (reduce q (total (sample_shares n k q x y words))) ≡ difference_of_weights (xor_all x) (xor_all y)
  shares-centred words = ap (centred_value q) (shares-residue P words) ∙ centred-value k q P.modulus (difference_of_weights (xor_all x) (xor_all y)) sample_le

module _ (n k q : ℕ) (x y : List ℕ) (h : Hold (pair_checks n k q x y)) where
  pair : SharedPair n k q x y
  pair = shared_pair n k q x y h

  -- the two strings open
  pub x_opened : opened_string n k x ≡ accepted (xor_all x)
  unfolding opened_string
  x_opened = accepts (xor_all x) (open_string_checks n k x) (h.0, (h.1.0, (h.1.1.1.0, (h.1.1.1.1.1.0, tt))))

  pub y_opened : opened_string n k y ≡ accepted (xor_all y)
  unfolding opened_string
  y_opened = accepts (xor_all y) (open_string_checks n k y) (h.0, (h.1.0, (h.1.1.1.1.0, (h.1.1.1.1.1.1.0, tt))))

  -- their plain weight difference
  pub plain_difference : weight_difference k (xor_all x) (xor_all y) ≡ accepted (difference_of_weights (xor_all x) (xor_all y))
  unfolding weight_difference
  plain_difference = accepts _ (weight_checks k (xor_all x) (xor_all y)) (h.1.0, (lt-ltb _ _ (x_lt pair), (lt-ltb _ _ (y_lt pair), tt)))

  -- their shares open to its residue
  pub shares_opened : {words shares : List ℕ} → SharesOf n k q x y words shares → opened_residue n q shares ≡ accepted (reduceℤ q (difference_of_weights (xor_all x) (xor_all y)))
  unfolding opened_residue
  shares_opened {words} {shares} s =
      let e : length shares ≡ n = ap length s.steps ∙ length-shares n k q x y words in
      let b : EachBelow q shares = rw s.steps (shares-below pair words) in
      accepts _ (open_residue_checks n q shares) (h.0, (le-leb 3 q (pair-large pair), (eq-eqb _ _ e, (ap is_none (each-below-none q shares 0 b), tt))))
      ∙ ap accepted s.residue

  -- which, centred, is the difference
  pub residue-centred : centred q (reduceℤ q (difference_of_weights (xor_all x) (xor_all y))) ≡ weight_difference k (xor_all x) (xor_all y)
  residue-centred =
      centred-sample k q pair.modulus pair.one (difference_of_weights (xor_all x) (xor_all y)) (sample_le pair)
      ∙ sym plain_difference

-- the shares that an accepted call leaves
pub call_opened : (n k q : ℕ) (x y words : List ℕ) (start : ℕ) (out work : List ℕ) → Hold (sample_checks n k q x y words start (length out) (length work))
    → opened_residue n q (take n (sampled n k q x y words start out work).buffers.out) ≡ accepted (reduceℤ q (difference_of_weights (xor_all x) (xor_all y)))
call_opened n k q x y words start out work h =
    shares_opened n k q x y (call-checks n k q x y words start out work h) (call-samples n k q x y words start out work h).shares
