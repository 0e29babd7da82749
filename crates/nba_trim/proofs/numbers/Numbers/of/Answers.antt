use Rattle.std.proofs.Common.{◌≡◌, ◌<◌, ◌∙◌, sym, ap, subst, None, length, get_or}
use Rattle.std.proofs.lemmas.List.{get_or_read}
use Rattle.nba_trim.specs.Numbers.{AreNumbers}
use Rattle.nba_trim.specs.Trimmed.{number_of}
use Rattle.nba_trim.proofs.Numbering.{number_is, number_within}
use Rattle.nba_trim.proofs.numbers.Numbers.of.Goals as goal

pub returns-clause-value : goal.returns-clause-value
returns-clause-value c =
    let items = c.self.inside.numbers.items in
    let within : c.args.q < length items = subst (λ v. c.args.q < length v.numbers) (sym c.self.view_is) c.requires in
    get_or_read items c.args.q c.index.result.now within c.index.ensures None ∙ ap (λ v. get_or v.numbers c.args.q None) c.self.view_is
    ∙ number_is c.args.self.now.numbers c.args.self.now.kept (subst (λ v. AreNumbers v.numbers v.kept) c.self.view_is c.self.invariant) c.args.q

pub returns-clause-within : goal.returns-clause-within
returns-clause-within c =
    let items = c.self.inside.numbers.items in
    let within : c.args.q < length items = subst (λ v. c.args.q < length v.numbers) (sym c.self.view_is) c.requires in
    let value : c.index.result.now ≡ number_of c.args.self.now.kept c.args.q =
    get_or_read items c.args.q c.index.result.now within c.index.ensures None ∙ ap (λ v. get_or v.numbers c.args.q None) c.self.view_is
    ∙ number_is c.args.self.now.numbers c.args.self.now.kept (subst (λ v. AreNumbers v.numbers v.kept) c.self.view_is c.self.invariant) c.args.q in
    number_within c.args.self.now.kept c.args.q c.index.result.now value
