use Rattle.std.proofs.Common.{◌≡◌, ℕ, ◌+◌, ◌-◌, ◌<◌, ◌≤◌, length}
use Rattle.word_core.specs.Lasso.{size}
use Rattle.ltl_form.specs.Meaning.{release_within}
use Rattle.ltl_form.specs.Rows.{at}
use Rattle.ltl_form.proofs.meanings.release_pass.Given as goal

abbrev pub invariant-loop-done : goal.invariant-loop-done
invariant-loop-done l = record {
  long : length l.row.items ≡ size l.w;
  begin : l.done ≡ 0 → l.row.items ≡ l.fn.row.items;
  said : (m : ℕ) → at l.fn.row.items (length l.w.stem) ≡ release_within l.w (at l.fs) (at l.gs) m (length l.w.stem)
      → (q : ℕ) → size l.w ≤ q + l.done → q < size l.w → at l.row.items q ≡ release_within l.w (at l.fs) (at l.gs) (size l.w - q + m) q;
}
