use Rattle.std.proofs.Common.{Vec, Global, ◌≡◌, ◌∙◌, ◌<◌, ℕ, sym, subst, length, List, Option}
use Rattle.std.specs.Option.{IsSome}
use Rattle.std.proofs.lemmas.Result.{IfOk-weaker}
use Rattle.word_core.specs.declared.names.Kind.TheVariants.{First, Second}
use Rattle.game_form.specs.Game.{class_at}
use Rattle.word_core.specs.declared.machines.Line.{Line}
use Rattle.strategy_play.specs.Answer.{Answers}
use Rattle.strategy_play.specs.State.{IsState}
use Rattle.strategy_play.specs.Lead.{lead, next_at, pick, leader, LeadBelow}
use Rattle.strategy_play.proofs.Answered.{answers_same}
use Rattle.strategy_play.proofs.Leading.{second_picks, first_leads, nexts_below}
use Rattle.strategy_play.proofs.lines.lines_of.Goals as goal

pub first_lines-requires-clause-some : goal.first_lines-requires-clause-some
first_lines-requires-clause-some c =
    let game = c.args.g.now in
    let kind : game.kind ≡ First = sym c.kind.ensures ∙ c.in-First.is in
    subst (λ (ns : List (Option ℕ)). IsSome (leader (lead ns) game.classes)) (sym c.deref.ensures.value)
    (first_leads game c.args.d.now c.args.f.now c.in_ok-nexts.nexts.items c.in_ok-nexts.ensures c.known.ensures kind c.requires.answered)

pub second_lines-requires-clause-some : goal.second_lines-requires-clause-some
second_lines-requires-clause-some c =
    let game = c.args.g.now in
    let kind : game.kind ≡ Second = sym c.kind.ensures ∙ c.in-Second.is in
    subst (λ (ns : List (Option ℕ)). (k : ℕ) → k < length game.classes → IsSome (pick (lead ns) (class_at game k).options)) (sym c.deref-in-Second.ensures.value)
    (second_picks game c.args.d.now c.args.f.now c.in_ok-nexts.nexts.items c.in_ok-nexts.ensures c.known.ensures kind c.requires.answered)

pub returns-in-First-clause-state : goal.returns-in-First-clause-state
returns-in-First-clause-state c =
    let below = subst (LeadBelow (length c.args.d.now)) (sym c.deref.ensures.value) (nexts_below c.args.g.now c.args.d.now c.args.f.now c.in_ok-nexts.nexts.items c.in_ok-nexts.ensures) in
    IfOk-weaker _ _ _ (λ (v : Vec Line Global) (made : (count : ℕ) → 0 < count → LeadBelow count c.deref.result.now → IsState c.args.g.now count v.items). made (length c.args.d.now) c.requires.some below) c.first_lines.ensures.state

pub returns-clause-state : goal.returns-clause-state
returns-clause-state c =
    let below = subst (LeadBelow (length c.args.d.now)) (sym c.deref-in-Second.ensures.value) (nexts_below c.args.g.now c.args.d.now c.args.f.now c.in_ok-nexts.nexts.items c.in_ok-nexts.ensures) in
    IfOk-weaker _ _ _ (λ (v : Vec Line Global) (made : (count : ℕ) → LeadBelow count c.deref-in-Second.result.now → IsState c.args.g.now count v.items). made (length c.args.d.now) below) c.second_lines.ensures.state

pub returns-in-First-clause-answers : goal.returns-in-First-clause-answers
returns-in-First-clause-answers c =
    IfOk-weaker _ (λ (v : Vec Line Global). Answers c.args.g.now (lead c.deref.result.now) (λ n. n) v.items) (λ (v : Vec Line Global). Answers c.args.g.now (next_at c.args.g.now c.args.d.now c.args.f.now) (λ n. n) v.items)
    (λ v made. answers_same c.args.g.now c.args.d.now c.args.f.now c.in_ok-nexts.nexts.items c.known.ensures c.in_ok-nexts.ensures (λ n. n) v.items
    (subst (λ ns. Answers c.args.g.now (lead ns) (λ n. n) v.items) c.deref.ensures.value made)) c.first_lines.ensures.answers

pub returns-clause-answers : goal.returns-clause-answers
returns-clause-answers c =
    IfOk-weaker _ (λ (v : Vec Line Global). Answers c.args.g.now (lead c.deref-in-Second.result.now) (λ n. n) v.items) (λ (v : Vec Line Global). Answers c.args.g.now (next_at c.args.g.now c.args.d.now c.args.f.now) (λ n. n) v.items)
    (λ v made. answers_same c.args.g.now c.args.d.now c.args.f.now c.in_ok-nexts.nexts.items c.known.ensures c.in_ok-nexts.ensures (λ n. n) v.items
    (subst (λ ns. Answers c.args.g.now (lead ns) (λ n. n) v.items) c.deref-in-Second.ensures.value made)) c.second_lines.ensures.answers
