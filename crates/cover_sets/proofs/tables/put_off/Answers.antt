use Rattle.std.proofs.Common.{◌^◌, length, arith, ap, sym, ◌∙◌}
use Rattle.std.proofs.lemmas.List.{length-map, length_push, map_push}
use Rattle.cover_sets.specs.Bits.{sets_of}
use Rattle.cover_sets.specs.Covers.{both, only}
use Rattle.cover_sets.specs.Union.{covers_of}
use Rattle.cover_sets.proofs.Unions.{read_cover}
use Rattle.cover_sets.proofs.FormulaRows.{put_off_more}
use Rattle.cover_sets.proofs.tables.put_off.Goals as goal

pub loop-f-preserved : goal.loop-f-preserved
loop-f-preserved c = (
  put_off_more c.args.n (covers_of c.args.fs.now) (covers_of c.args.gs.now) (covers_of c.loop-f.raw.items) (covers_of c.push.new.self.items) c.loop-f.f-index (sets_of c.join.result)
      (omega (arith, length-map c.args.fs.now sets_of))
      (c.join.ensures ∙ ap (both (sets_of c.f-item.result)) c.postponement-postponed.ensures
      ∙ ap (λ s. both s (only 0 (2 ^ c.args.n) (2 ^ c.args.n))) (sym (read_cover c.args.fs.now c.loop-f.f-index c.f-item.result (omega arith) c.f-item.is)))
      c.loop-f.invariant.0 (ap covers_of c.in_ok-push.ensures.items ∙ map_push sets_of c.loop-f.raw.items c.join.result),
  omega (arith, ap length c.in_ok-push.ensures.items, length_push c.loop-f.raw.items c.join.result, c.loop-f.invariant.1),
)
