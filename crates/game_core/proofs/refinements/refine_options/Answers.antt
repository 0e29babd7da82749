use Rattle.std.proofs.Common.{slice_index_or}
use Rattle.game_core.proofs.ColumnReads.{miss_column}
use Rattle.game_core.proofs.refinements.refine_options.Goals as goal

pub add_column-requires-clause-strict : goal.add_column-requires-clause-strict
add_column-requires-clause-strict c =
    miss_column c.args.f.now c.args.columns.now (slice_index_or c.args.options.now c.loop-i.i 0) c.index-columns-options.result
    (c.requires.options c.loop-i.i 0 c.loop-i-test.true) c.index-columns-options.is
    (c.requires.strict c.loop-i.i 0 c.loop-i-test.true)
