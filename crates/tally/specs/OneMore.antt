-- The tally after one sample more.
use Rattle.std.specs.Prelude.{cond, not, ◌||◌, ℕ, ◌+◌, eqb, ℤ, ◌+ℤ◌, set}
use Rattle.buffers.specs.Positions.{at}
use Rattle.pairs.specs.Integers.{position}
use Rattle.tally.specs.declared.Tally.{Tally}
use Rattle.tally.specs.Tally.{square}

abbrev pub with_one : Tally → ℕ → ℤ → Tally
with_one t k z =
    let first : ℕ = cond (eqb t.total 0) k t.k in
    record {
      counts = set t.counts (position 16 z) (at t.counts (position 16 z) + 1);
      sum = t.sum +ℤ z;
      squares = t.squares + square z;
      total = t.total + 1;
      k = first;
      mixed = t.mixed || not (eqb k first);
    }
