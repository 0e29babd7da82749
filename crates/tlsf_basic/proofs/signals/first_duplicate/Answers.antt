use Rattle.std.proofs.Common.{◌∙◌}
use Rattle.tlsf_basic.specs.Signals.{is_repeated}
use Rattle.tlsf_basic.proofs.Firsts.{none_more, never, names_more, not_repeated}
use Rattle.tlsf_basic.proofs.signals.first_duplicate.Goals as goal

pub loop-lexeme-preserved : goal.loop-lexeme-preserved
loop-lexeme-preserved c =
    record {
      names = c.in_ok-repeats.ensures.names c.if-branch.false ∙ names_more c.args.text.now c.args.lexemes.now c.loop-lexeme.lexeme-index _ _ c.loop-lexeme-test.true c.loop-lexeme.invariant.names;
      none = none_more (is_repeated c.args.text.now) c.args.lexemes.now c.loop-lexeme.lexeme-index _ c.loop-lexeme.invariant.none
          (not_repeated c.args.text.now c.args.lexemes.now c.loop-lexeme.lexeme-index _ _ _ c.loop-lexeme.invariant.names c.in_ok-repeats.ensures.found c.if-branch.false);
    }

pub returns-clause-none : goal.returns-clause-none
returns-clause-none c = never (is_repeated c.args.text.now) c.args.lexemes.now c.loop-lexeme.lexeme-index c.loop-lexeme-test.false c.loop-lexeme.invariant.none
