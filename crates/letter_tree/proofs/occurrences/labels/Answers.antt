use Rattle.std.proofs.Common.{◌≡◌, ◌≢◌, ◌∙◌, subst, sym, ap}
use Rattle.std.specs.List.{AllPairs}
use Rattle.std.proofs.lemmas.Bool.Decides.{Decides-eqb}
use Rattle.std.proofs.lemmas.Map.Made.{AllPairs-from_IsDistinct}
use Rattle.letter_tree.specs.Occurrence.{labels_in}
use Rattle.letter_tree.proofs.Occurring.{labels_exact}
use Rattle.letter_tree.proofs.occurrences.labels.Goals as goal

pub returns : goal.returns
returns c =
    let keys = c.in_ok-seen.seen.keys in
    let made : keys ≡ labels_in c.in_ok-leasts.leasts.items = c.in_ok-seen.ensures ∙ ap labels_in c.deref.ensures.value in
    let once : AllPairs (λ l m. l ≢ m) keys = AllPairs-from_IsDistinct Decides-eqb keys c.len.ensures.unique in
    let items : c.in_ok-labels.labels.items ≡ keys = c.in_ok-labels.ensures.items ∙ c.as_slice.ensures.keys in
    labels_exact c.args.t.now.width c.args.t.now.nodes c.in_ok-leasts.leasts.items c.in_ok-labels.labels.items c.in_ok-leasts.ensures.exact (items ∙ made) (subst (AllPairs (λ l m. l ≢ m)) (sym items) once)
