-- A read puts its bytes behind those that were read before it.
use Rattle.std.proofs.Common.{◌≡◌, ℕ, ◌+◌, ◌≤◌, List, ◌++◌, rules, arith, length, take, drop, ap, ◌∙◌, subst, sym, drop_at, length-take-le}
use Rattle.std.specs.Io.KnownBytes.{Consumes}
use Rattle.std.proofs.KnownBytes.{Consumes-trans}
use borrow.Rule.Slice.PartMut.{put_mid, post_of, take_put}
use Rattle.std.proofs.Math.Seq.{take-add, take-append-le}
use Rattle.streams.proofs.read_input.Goals as goal

take-put_more : (a k n : ℕ) (xs ys : List ℕ) → a ≤ length xs → n ≤ length ys → take (a + n) (put_mid a k xs ys) ≡ take a xs ++ take n ys
take-put_more a k n xs ys within fits =
    let behind : take n (drop a (put_mid a k xs ys)) ≡ take n ys =
    ap (take n) (drop_at (take a xs) (ys ++ post_of a k xs) a (length-take-le a xs within)) ∙ take-append-le n ys (post_of a k xs) fits in
    take-add a n (put_mid a k xs ys) ∙ ap (λ l. l ++ take n (drop a (put_mid a k xs ys))) (take_put a k xs ys within) ∙ ap (λ l. take a xs ++ l) behind

pub loop-done-preserved : goal.loop-done-preserved
loop-done-preserved g c = record {
  in_buffer = search rules;
  read = subst (Consumes _ _) (sym (take-put_more c.loop-done.done _ c.in-Ok.more c.loop-done.buffer c.read.new.buf (omega arith) c.in-Ok.ensures.bound.0)) (Consumes-trans _ _ _ _ _ c.loop-done.invariant.read c.in-Ok.ensures.bytes.0);
}
