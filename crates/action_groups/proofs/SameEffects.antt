-- Letters of the same edges have one action.
use Rattle.std.proofs.Common.{◌≡◌, ℕ, zero, suc, ◌+◌, ◌-◌, ◌<◌, ◌≤◌, ◌⊎◌, inl, inr, Bool, List, [], ◌∷◌, length, get_or, map, sym, ap, ◌∙◌, subst, arith}
use Rattle.std.specs.Prelude.{Vec}
use Rattle.std.specs.List.{All, filter}
use Rattle.std.specs.declared.alloc.Global.{Global}
use Rattle.std.proofs.lemmas.Bool.{cases_lt}
use Rattle.word_core.specs.declared.branches.Branch.{Branch}
use Rattle.word_core.specs.Automaton.{AutomatonData, edges_at}
use Rattle.word_core.specs.Cube.{holds, IsCube}
use Rattle.word_core.specs.Tree.{label_of}
use Rattle.action_groups.specs.declared.games.Parts.{Parts}
use Rattle.action_groups.specs.declared.orders.Order.{Order}
use Rattle.action_groups.specs.declared.ways.Way.{Way}
use Rattle.action_groups.specs.Actions.{HasSameLabels}
use Rattle.action_groups.specs.Lists.{items_at}
use Rattle.action_groups.specs.Numbers.{steps_number, step_of}
use Rattle.action_groups.specs.Parts.{HasSameActions}
use Rattle.action_groups.specs.Rows.{HasEdges, edge_number}
use Rattle.action_groups.specs.Tests.{HasEffects, IsLetterOf, allowing, allows_from}
use Rattle.action_groups.specs.Way.{AreSteps}
use Rattle.action_groups.proofs.Allowed.{filter_same}
use Rattle.action_groups.proofs.Distinct.{same_steps, steps_within}
use Rattle.action_groups.proofs.Letters.{allowed_is_held}

steps_at : (count : ℕ) (effects : List (Vec (ℕ × ℕ × Bool) Global)) (l : ℕ) → l < length effects → All (λ e. AreSteps count e.items) effects → AreSteps count (items_at effects l)
steps_at count [] l lt h = absurd (omega arith)
steps_at count (e ∷ effects) zero lt h = h 0 e (omega arith)
steps_at count (e ∷ effects) (suc l) lt h = steps_at count effects l (omega arith) (λ k d inside. h (suc k) d (omega arith))

module _
    (order : Order) (a : AutomatonData) (nodes : List Branch) (effects : List (Vec (ℕ × ℕ × Bool) Global)) (ways : List Way)
    (signals : a.signals ≡ order.inputs + order.outputs) (edges : HasEdges a ways) (exact : HasEffects order 0 (label_of nodes) effects ways)
    (steps : All (λ e. AreSteps (length a.states) e.items) effects) (below : (bits : ℕ) → label_of nodes bits < length effects) where
  letter_numbers : (x bits q r : ℕ) → IsLetterOf order.inputs order.outputs order.inputs_first x bits → q < length a.states → steps_number (items_at effects (label_of nodes bits)) q r ≡ edge_number (edges_at a q) x r
  letter_numbers x bits q r letter lt =
      exact bits q r
      ∙ ap (λ (ws : List Way). steps_number (map step_of ws) q r) same
      ∙ edges.numbers x q r lt
    where
      whole : order.inputs + order.outputs - 0 ≡ order.inputs + order.outputs
      whole = omega arith

      same : allowing order 0 bits ways ≡ filter (λ w. holds w.edge.cube x) ways
      same =
          ap (λ n. filter (λ w. allows_from order n 0 bits w.edge.cube) ways) whole
          ∙ filter_same (λ w. allows_from order (order.inputs + order.outputs) 0 bits w.edge.cube) (λ w. holds w.edge.cube x) ways
          (λ k d inside. allowed_is_held order x bits (get_or ways k d).edge.cube letter (subst (λ n. IsCube n (get_or ways k d).edge.cube) signals (edges.cubes k d inside)))

  pub same_actions : (p : Parts) → HasSameLabels nodes effects p → HasSameActions order.inputs order.outputs order.inputs_first a p
  same_actions p labels x bits y others letter other same = labels bits others (same_steps here there here_steps.rising there_steps.rising numbers)
    where
      here : List (ℕ × ℕ × Bool)
      here = items_at effects (label_of nodes bits)

      there : List (ℕ × ℕ × Bool)
      there = items_at effects (label_of nodes others)

      here_steps : AreSteps (length a.states) here
      here_steps = steps_at (length a.states) effects (label_of nodes bits) (below bits) steps

      there_steps : AreSteps (length a.states) there
      there_steps = steps_at (length a.states) effects (label_of nodes others) (below others) steps

      numbers : (q r : ℕ) → steps_number here q r ≡ steps_number there q r
      numbers q r = go (cases_lt q (length a.states))
        where
          go : (q < length a.states) ⊎ (length a.states ≤ q) → steps_number here q r ≡ steps_number there q r
          go (inl lt) = letter_numbers x bits q r letter lt ∙ same q r lt ∙ sym (letter_numbers y others q r other lt)
          go (inr le) = steps_within (length a.states) here q r here_steps.each le ∙ sym (steps_within (length a.states) there q r there_steps.each le)
