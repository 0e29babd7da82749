use Rattle.std.proofs.Common.{◌≡◌, ◌&&◌, true, List, Vec}
use Rattle.std.specs.Prelude.{ℤ}
use Rattle.std.specs.List.{list_any}
use Rattle.std.specs.declared.alloc.Global.{Global}
use Rattle.counter_vec.specs.Counters.{at_or_below}
use Rattle.cpre_step.specs.Refinement.{action_works}
use Rattle.game_form.specs.Vector.{IsVector}
use Rattle.game_core.specs.Columns.{some_covers}
use Rattle.game_core.specs.Front.{under}
use Rattle.game_core.proofs.ColumnReads.{column_lanes}
use Rattle.game_core.proofs.FullColumns.{some_whole}
use Rattle.game_core.proofs.Weaker.{ok_weaker}
use Rattle.game_core.proofs.Works.{columns_missed}
use Rattle.game_core.proofs.looks.remains_of.Goals as goal

pub refine_options-requires-clause-same : goal.refine_options-requires-clause-same
refine_options-requires-clause-same c =
    column_lanes c.args.g.now c.args.vectors.now c.fill.new.columns c.args.f.now c.known.ensures c.requires.entry.same_length c.fill.ensures.columns

pub refine_options-requires-clause-strict : goal.refine_options-requires-clause-strict
refine_options-requires-clause-strict c =
    columns_missed c.args.g.now c.known.ensures c.args.vectors.now c.args.f.now c.requires.vectors c.requires.entry c.fill.new.columns c.args.options.now c.fill.ensures.columns
    c.requires.options c.requires.refused

pub returns-clause-whole : goal.returns-clause-whole
returns-clause-whole c =
    let g = c.args.g.now in
    let vs : List (List ℤ) = c.args.vectors.now in
    let f : List ℤ = c.args.f.now in
    ok_weaker
    (λ (v : Vec (List ℤ) Global). (u : List ℤ) → under v.items u ≡ (at_or_below u f && some_covers u c.fill.new.columns c.args.options.now))
    (λ (v : Vec (List ℤ) Global). (u : List ℤ) → IsVector g u → at_or_below u f ≡ true → list_any (action_works g vs u) c.args.options.now ≡ true → under v.items u ≡ true)
    c.refine_options.result
    (λ v made. some_whole g c.known.ensures vs c.requires.vectors c.fill.new.columns c.fill.ensures.columns f c.args.options.now v.items c.requires.options c.in_ok-fill.ensures.full made)
    c.refine_options.ensures.under
