-- What holds of every call.
use Rattle.std.specs.Prelude.{is_none, ◌≡◌, true, List, [], ◌∷◌, ℕ, ◌+◌, ◌*◌, ◌^◌, ◌≤◌, ◌<◌, take}
use Rattle.std.proofs.Common.{sym, ap₂, ◌∙◌, arith, eq-eqb}
use Rattle.std.proofs.Math.Path.{ap}
use Rattle.std.proofs.Math.ListN.{length, drop}
use Rattle.residue.specs.Residue.{reduceℤ, EachBelow}
use Rattle.buffers.specs.Overwrite.{overwrite}
use Rattle.buffers.specs.Laws.{take-front, drop-front}
use Rattle.buffers.specs.Positions.{at, block}
use Rattle.buffers.specs.PositionLaws.{table_at}
use Rattle.buffers.specs.Blocks.{block-fits, length-block, block-below, block-front, block-rows}
use Rattle.checks.specs.Checks.{Check, Outcome, accepted, verdict, share_count, string_length, modulus_at_least, exactly, narrow, share_checks}
use Rattle.checks.specs.Laws.{Hold, within_true, each-below-none, accepts, accepted-holds, settled-answer, settled-accepted, settled_keeps}
use Rattle.masking.specs.Sharing.{xor_all, open_string_checks, opened_string}
use Rattle.binomial.specs.Signed.{difference_of_weights}
use Rattle.binomial.proofs.SetsFit.{sets-fit}
use Rattle.noise.specs.Fips203.{sample_poly_cbd}
use Rattle.noise.specs.Split.{noise_string, word_at, x_bit, y_bit, noise_shares, opened_bytes, set_of, noise_checks, Targets, targets, noise_split}
use Rattle.noise.specs.Accepted.{noise}
use Rattle.noise.proofs.Opened.{length-shares, shares-below, shares_opened, words-difference}

-- A target list after an accepted call: the shares in front, which begin where `first` says, and the rest as it was.
module _ (n k : ℕ) (bytes : List ℕ) (first : ℕ → ℕ → ℕ) (l : List ℕ) where
  abbrev target : List ℕ
  target = overwrite l 0 (noise_shares first n k bytes)

  target-kept : drop (256 * n) target ≡ drop (256 * n) l
  target-kept = drop-front l (noise_shares first n k bytes) (256 * n) (length-shares n k bytes first)

  target-front : take (256 * n) target ≡ noise_shares first n k bytes
  target-front = take-front l (noise_shares first n k bytes) (256 * n) (length-shares n k bytes first)

  -- checks 4 and 6, or 5 and 7
  target_fits : (code : ℕ) → ((exactly code (256 * n) (take (256 * n) target)).holds ≡ true) × ((narrow code k (take (256 * n) target)).holds ≡ true)
  target_fits code = rw target-front (eq-eqb _ _ (length-shares n k bytes first), ap is_none (each-below-none (2 ^ k) (noise_shares first n k bytes) 0 (shares-below n k bytes first)))

  module _ (t : ℕ) (h : t < 256) where
    target-block : block n t target ≡ block n t (noise_shares first n k bytes)
    target-block = sym (block-front n target t 256 h) ∙ ap (block n t) target-front

    -- share i of coefficient t is read off string i alone
    target-share : (i : ℕ) → i < n → at (block n t target) i ≡ word_at k (noise_string k bytes i) (first k t)
    target-share i b = ap (λ (s : List ℕ). at s i) (target-block ∙ block-rows 256 n _ t h) ∙ table_at n _ i b

    -- opened, the coefficient has the bits of the opened bytes
    target_xor : xor_all (block n t target) ≡ word_at k (opened_bytes n k bytes) (first k t)
    target_xor = ap xor_all target-block ∙ shares_opened n k bytes first t h

    target_opened : (share_count n).holds ≡ true → (string_length k).holds ≡ true → opened_string n k (block n t target) ≡ accepted (word_at k (opened_bytes n k bytes) (first k t))
    unfolding opened_string
    target_opened a b =
        let m : t * n + n ≤ length (noise_shares first n k bytes) = omega (arith, block-fits n h, length-shares n k bytes first) in
        let c : length (block n t target) ≡ n = ap length target-block ∙ length-block n (noise_shares first n k bytes) t m in
        let d : EachBelow (2 ^ k) (block n t target) = rw target-block (block-below n (noise_shares first n k bytes) (2 ^ k) t (shares-below n k bytes first)) in
        accepts (xor_all (block n t target)) (open_string_checks n k (block n t target)) (a, (b, (eq-eqb _ _ c, (ap is_none (each-below-none (2 ^ k) (block n t target) 0 d), tt)))) ∙ ap accepted target_xor

module _ (n number : ℕ) (bytes x y : List ℕ) where
  abbrev o : Outcome ℕ Targets
  o = noise_split n number bytes x y

  abbrev k : ℕ
  k = (set_of number).k

  abbrev checks : List Check
  checks = noise_checks n number bytes (length x) (length y)

  abbrev after : Targets
  after = targets (target n (set_of number).k bytes x_bit x) (target n (set_of number).k bytes y_bit y)

  -- ---- every call, accepted or refused, keeps the positions past 256n

  pub x-kept : drop (256 * n) o.buffers.x ≡ drop (256 * n) x
  unfolding noise_split
  x-kept = settled_keeps (verdict checks (256 * n)) (targets x y) after (λ b. drop (256 * n) b.x) (target-kept n k bytes x_bit x)

  pub y_kept : drop (256 * n) o.buffers.y ≡ drop (256 * n) y
  unfolding noise_split
  y_kept = settled_keeps (verdict checks (256 * n)) (targets x y) after (λ b. drop (256 * n) b.y) (target-kept n k bytes y_bit y)

  pub accepted-checks : (count : ℕ) → o.answer ≡ accepted count → Hold (noise_checks n number bytes (length x) (length y))
  unfolding noise_split
  accepted-checks count e = accepted-holds (256 * n) count checks (sym (settled-answer _ (targets x y) after) ∙ e)

  -- ---- a call that passes every check

  module _ (h : Hold (noise_checks n number bytes (length x) (length y))) where
    pub call-accepted : o ≡ record { answer = accepted (256 * n); buffers = targets (overwrite x 0 (noise_shares x_bit n (set_of number).k bytes)) (overwrite y 0 (noise_shares y_bit n (set_of number).k bytes)) }
    unfolding noise_split
    call-accepted = settled-accepted (256 * n) checks (targets x y) after h

    x-after : o.buffers.x ≡ target n (set_of number).k bytes x_bit x
    x-after = ap (λ (o : Outcome ℕ Targets). o.buffers.x) call-accepted

    y-after : o.buffers.y ≡ target n (set_of number).k bytes y_bit y
    y-after = ap (λ (o : Outcome ℕ Targets). o.buffers.y) call-accepted

    -- checks 2 and 3 of the set
    pub set-fits : Hold (string_length (set_of number).k ∷ modulus_at_least (2 * (set_of number).k + 1) (set_of number).q ∷ [])
    set-fits = sets-fit number (set_of number) (noise n number bytes x y h).of.published

    -- what was written passes checks 4 to 7
    pub call-shares : Hold (share_checks (256 * n) (set_of number).k (take (256 * n) o.buffers.x) (take (256 * n) o.buffers.y))
    call-shares =
        let a = target_fits n k bytes x_bit x in
        let b = target_fits n k bytes y_bit y in
        rw (x-after, y-after) ((a 4).0, ((b 5).0, ((a 6).1, ((b 7).1, tt))))

    -- coefficient t of x and of y
    module _ (t : ℕ) (l : t < 256) where
      -- its share i is read off string i alone
      pub x-share : (i : ℕ) → i < n → at (block n t o.buffers.x) i ≡ word_at (set_of number).k (noise_string (set_of number).k bytes i) (x_bit (set_of number).k t)
      x-share i b = ap (λ (s : List ℕ). at (block n t s) i) x-after ∙ target-share n k bytes x_bit x t l i b

      pub y-share : (i : ℕ) → i < n → at (block n t o.buffers.y) i ≡ word_at (set_of number).k (noise_string (set_of number).k bytes i) (y_bit (set_of number).k t)
      y-share i b = ap (λ (s : List ℕ). at (block n t s) i) y-after ∙ target-share n k bytes y_bit y t l i b

      -- opened, it has the bits of the opened bytes
      pub x_opened : opened_string n (set_of number).k (block n t o.buffers.x) ≡ accepted (word_at (set_of number).k (opened_bytes n (set_of number).k bytes) (x_bit (set_of number).k t))
      x_opened = ap (λ (s : List ℕ). opened_string n k (block n t s)) x-after ∙ target_opened n k bytes x_bit x t l h.0 set-fits.0

      pub y_opened : opened_string n (set_of number).k (block n t o.buffers.y) ≡ accepted (word_at (set_of number).k (opened_bytes n (set_of number).k bytes) (y_bit (set_of number).k t))
      y_opened = ap (λ (s : List ℕ). opened_string n k (block n t s)) y-after ∙ target_opened n k bytes y_bit y t l h.0 set-fits.0

      -- and its weight difference modulo q is f[t] of SamplePolyCBD
      pub coefficient_opened : (q : ℕ) → reduceℤ q (difference_of_weights (xor_all (block n t o.buffers.x)) (xor_all (block n t o.buffers.y))) ≡ at (sample_poly_cbd q (set_of number).k (opened_bytes n (set_of number).k bytes)) t
      coefficient_opened q = ap₂ (λ (x y : ℕ). reduceℤ q (difference_of_weights x y)) (ap (λ (s : List ℕ). xor_all (block n t s)) x-after ∙ target_xor n k bytes x_bit x t l) (ap (λ (s : List ℕ). xor_all (block n t s)) y-after ∙ target_xor n k bytes y_bit y t l) ∙ words-difference n k bytes q t l (within_true 1 16 k set-fits.0).1
