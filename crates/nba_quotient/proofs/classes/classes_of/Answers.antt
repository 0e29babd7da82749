use Rattle.std.proofs.Common.{◌≡◌, refl, sym, ◌∙◌, ap}
use Rattle.std.proofs.lemmas.Bool.Decides.{Decides-eqb}
use Rattle.std.proofs.lemmas.Slice.Eq.{slice_eq-Decides}
use Rattle.nba_quotient.specs.Ways.{class_at}
use Rattle.nba_quotient.proofs.classes.classes_of.Goals as goal

pub returns-then-eq-clause-stable : goal.returns-then-eq-clause-stable
returns-then-eq-clause-stable c =
    let same : c.in_ok-finer.finer.of.items ≡ c.loop-classes.classes.of.items = (slice_eq-Decides Decides-eqb c.in_ok-finer.finer.of.items c.loop-classes.classes.of.items _ refl).0 (sym c.if-eq.ensures) in
    λ s t ls lt e. c.in_ok-finer.ensures.alike s t ls lt (ap (λ of. class_at of s) same ∙ e ∙ sym (ap (λ of. class_at of t) same))
