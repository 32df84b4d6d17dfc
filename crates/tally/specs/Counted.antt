-- What the code counts, of samples zs with their ks.
use Rattle.std.specs.Prelude.{not, List, ℕ, ℤ, length}
use Rattle.buffers.specs.Positions.{table}
use Rattle.tally.specs.declared.Tally.{Tally}
use Rattle.tally.specs.Tally.{count_at, sumℤ, squares, first_of, agree}

abbrev pub tally_of : List ℕ → List ℤ → Tally
tally_of ks zs =
    record {
      counts = table 33 (count_at zs);
      sum = sumℤ zs;
      squares = squares zs;
      total = length zs;
      k = first_of ks;
      mixed = not (agree ks);
    }
