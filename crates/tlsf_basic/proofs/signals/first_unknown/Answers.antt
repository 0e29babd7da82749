use Rattle.std.proofs.Common.{sym, ◌∙◌, subst}
use Rattle.std.specs.Prelude.{All}
use Rattle.std.proofs.lemmas.List.{take_all}
use Rattle.std.proofs.lemmas.List.Elements.{All-more}
use Rattle.tlsf_basic.specs.Signals.{IsKnown, is_undeclared}
use Rattle.tlsf_basic.proofs.Firsts.{none_more, never}
use Rattle.tlsf_basic.proofs.signals.first_unknown.Goals as goal

pub loop-lexeme-preserved : goal.loop-lexeme-preserved
loop-lexeme-preserved c =
    record {
      known = All-more IsKnown c.args.lexemes.now c.loop-lexeme.lexeme-index _ c.loop-lexeme-test.true c.loop-lexeme.invariant.known (sym c.is_unknown.ensures ∙ c.if-is_unknown.false);
      none = none_more is_undeclared c.args.lexemes.now c.loop-lexeme.lexeme-index _ c.loop-lexeme.invariant.none (sym c.is_unknown.ensures ∙ c.if-is_unknown.false);
    }

pub returns-clause-none : goal.returns-clause-none
returns-clause-none c =
    subst (All IsKnown) (take_all c.loop-lexeme.lexeme-index c.args.lexemes.now c.loop-lexeme-test.false) c.loop-lexeme.invariant.known

pub returns-clause-never : goal.returns-clause-never
returns-clause-never c = never is_undeclared c.args.lexemes.now c.loop-lexeme.lexeme-index c.loop-lexeme-test.false c.loop-lexeme.invariant.none
