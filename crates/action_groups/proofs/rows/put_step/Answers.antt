use Rattle.std.proofs.Common.{◌≡◌, ◌∙◌, ◌++◌, List, [], ◌∷◌, max, ap, arith, w16, SFits}
use Rattle.std.specs.Prelude.{ℤ, nat_eq, if◌then◌else◌}
use Rattle.std.proofs.lemmas.Int.{to_z-of_z, ints}
use Rattle.game_form.specs.declared.actions.Step.{Step}
use Rattle.game_form.specs.Vector.{number}
use Rattle.action_groups.proofs.RowNumbers.{number_pushed}
use Rattle.action_groups.proofs.rows.put_step.Goals as goal

pub returns-clause-numbers : goal.returns-clause-numbers
returns-clause-numbers c =
    let old = c.args.steps.now.items in
    let fits : SFits w16 c.number_of.result = grind (arith, ints) in
    let pushed : c.push.new.self.items ≡ old ++ record { to = c.args.to; number = c.number_of.result } ∷ [] =
    c.in_ok-push.ensures.items ∙ ap (λ (z : ℤ). old ++ record { to = c.args.to; number = z } ∷ []) (to_z-of_z w16 c.number_of.result fits) in
    λ p.
    ap (λ (l : List Step). number l p) pushed
    ∙ number_pushed c.args.next old (record { to = c.args.to; number = c.number_of.result }) p c.requires.ends c.requires.behind
    ∙ ap (λ n. max (number old p) (if nat_eq c.args.to p then n else 0)) c.number_of.ensures.value
