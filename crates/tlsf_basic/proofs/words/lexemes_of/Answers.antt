use Rattle.std.proofs.Common.{sym, ap, ◌∙◌, subst, is_ok, length}
use Rattle.std.proofs.ResultArms.{chosen}
use Rattle.std.specs.Prelude.{All}
use Rattle.tlsf_basic.specs.Words.{SpanWithin}
use Rattle.tlsf_basic.specs.Signals.{IsFresh}
use Rattle.tlsf_basic.specs.declared.words.Zone.TheVariants.{Heading}
use Rattle.tlsf_basic.proofs.WordLemmas.{lexemes_more, lexemes_end, lexemes_within, lexemes_fresh}
use Rattle.tlsf_basic.proofs.words.lexemes_of.Goals as goal

pub loop-token-preserved : goal.loop-token-preserved
loop-token-preserved c =
    let pushed = chosen _ _ _ _ c.push.ensures.items (ap is_ok c.in_ok-push.was) in
    lexemes_more c.args.text.now c.loop-token.zone _ c.args.tokens.now c.loop-token.token-index _ _ _ c.loop-token.lexemes.items _ _
    c.loop-token-test.true c.symbol_of-symbol.ensures c.zone_after-zone.ensures c.in_zone.ensures pushed c.loop-token.invariant

pub returns : goal.returns
returns c =
    let e = sym (lexemes_end c.args.text.now c.loop-token.zone c.args.tokens.now c.loop-token.token-index c.loop-token.lexemes.items c.loop-token-test.false) ∙ c.loop-token.invariant in
    record {
      value = e;
      within = subst (All (SpanWithin (length c.args.text.now))) (sym e) (lexemes_within (length c.args.text.now) c.args.text.now Heading c.args.tokens.now c.requires);
      fresh = subst (All IsFresh) (sym e) (lexemes_fresh c.args.text.now Heading c.args.tokens.now);
    }
