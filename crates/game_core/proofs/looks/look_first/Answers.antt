use Rattle.std.proofs.Common.{subst, sym, length}
use Rattle.game_core.specs.Tried.{AreOptions, FailsEach}
use Rattle.game_core.proofs.ColumnReads.{column_lanes}
use Rattle.game_core.proofs.FullColumns.{first_whole}
use Rattle.game_core.proofs.Works.{class_works_by}
use Rattle.game_core.proofs.looks.look_first.Goals as goal

pub refine_classes-requires-clause-same : goal.refine_classes-requires-clause-same
refine_classes-requires-clause-same c = column_lanes c.args.g.now c.args.vectors.now c.fill_all.new.columns c.args.f.now c.known.ensures c.requires.entry.same_length c.fill_all.ensures.columns

pub returns-in-Works-clause-stays : goal.returns-in-Works-clause-stays
returns-in-Works-clause-stays c =
    class_works_by c.args.g.now c.known.ensures c.args.vectors.now c.args.f.now c.requires.vectors c.requires.entry c.fill_all.new.columns c.fill_all.ensures.columns c.args.plan.now
    c.requires.plan (rw c.in-Works.is at c.in_ok-try_classes.ensures.tried)

pub refine_classes-requires-clause-options : goal.refine_classes-requires-clause-options
refine_classes-requires-clause-options c =
    let h : FailsEach c.args.f.now c.fill_all.new.columns c.args.plan.now (length c.args.plan.now) c.in-Fails.failing.items = rw c.in-Fails.is at c.in_ok-try_classes.ensures.tried in
    subst (AreOptions c.args.plan.now) (sym c.deref.ensures.value) h.options

pub returns-in_ok-refine_classes-in-Fails-clause-whole : goal.returns-in_ok-refine_classes-in-Fails-clause-whole
returns-in_ok-refine_classes-in-Fails-clause-whole c =
    first_whole c.args.g.now c.known.ensures c.args.vectors.now c.requires.vectors c.fill_all.new.columns c.fill_all.ensures.columns c.args.f.now c.args.plan.now
    c.in_ok-refine_classes-in-Fails.field-0.items c.requires.plan c.in_ok-fill_all.ensures.full c.in_ok-refine_classes-in-Fails.ensures.under
