use Rattle.std.proofs.Common.{◌≡◌, ◌∙◌, ap, arith, ℕ, [], ◌∷◌, ◌++◌}
use Rattle.std.specs.Prelude.{nat_eq, if◌then◌else◌}
use Rattle.std.proofs.lemmas.List.{get_or_default}
use Rattle.game_core.specs.Flat.{over_at}
use Rattle.game_core.proofs.Flats.{among_more, tops_under}
use Rattle.game_core.proofs.tops.tops_of.Goals as goal

pub returns-clause-under : goal.returns-clause-under
returns-clause-under c =
    tops_under c.args.lows.now.items c.args.over.now.items c.loop-i.tops.items c.requires c.loop-i.invariant.0
    (λ k lt. c.loop-i.invariant.1 k (let n = c.requires.same in omega arith))

pub loop-i-preserved : goal.loop-i-preserved
loop-i-preserved c =
    let read : c.index.result.now ≡ over_at c.args.over.now.items c.loop-i.i = c.index.ensures ∙ get_or_default c.args.over.now.items c.loop-i.i c.index.result.now 0 (omega arith) in
    among_more c.args.lows.now.items c.args.over.now.items c.loop-i.tops.items c.push_if.new.places.items c.loop-i.i (let n = c.requires.same in omega arith)
    (c.in_ok-push_if.ensures ∙ ap (λ (x : ℕ). if nat_eq x c.loop-i.i then c.loop-i.tops.items ++ c.loop-i.i ∷ [] else c.loop-i.tops.items) read) c.loop-i.invariant
