use Rattle.std.proofs.Common.{◌≡◌, ℕ, ◌∙◌, Bool, List, ap}
use Rattle.std.specs.Prelude.{Vec}
use Rattle.std.specs.declared.alloc.Global.{Global}
use Rattle.action_groups.specs.Lists.{items_at}
use Rattle.action_groups.specs.Numbers.{steps_number}
use Rattle.action_groups.specs.Way.{AreSteps}
use Rattle.action_groups.proofs.Lists.{lists_inserted, all_inserted, stored_steps}
use Rattle.action_groups.proofs.groups.put_effect.Goals as goal

pub returns-clause-effects : goal.returns-clause-effects
returns-clause-effects c =
    let P : Vec (ℕ × ℕ × Bool) Global → Type 0 = λ e. AreSteps c.args.count e.items in
    all_inserted P c.args.letters.now.effects.keys c.insert_full.new.self.keys c.in_ok-effect.field-0 _ c.in_ok-label.ensures.keys c.requires.effects c.in_ok-effect.ensures.steps

pub returns-clause-lists : goal.returns-clause-lists
returns-clause-lists c = lists_inserted c.args.letters.now.effects.keys c.insert_full.new.self.keys c.in_ok-effect.field-0 _ c.in_ok-label.ensures.keys

pub returns-clause-numbers : goal.returns-clause-numbers
returns-clause-numbers c =
    let s = c.in_ok-label.ensures.stored in
    let steps = c.in_ok-effect.field-0.items in
    let e : items_at c.insert_full.new.self.keys c.in_ok-label.label ≡ steps = stored_steps c.insert_full.new.self.keys c.in_ok-label.label s.0 steps s.1 s.2 in
    λ q p. ap (λ (l : List (ℕ × ℕ × Bool)). steps_number l q p) e ∙ c.in_ok-effect.ensures.numbers q p
