use Rattle.std.proofs.Common.{◌≡◌, ℕ, ◌+◌, ◌++◌, map, encode_utf8_all, true, sym, ap, ◌∙◌, subst, length, vec_len}
use Rattle.std.specs.Prelude.{All}
use Rattle.std.proofs.lemmas.Result.{err_from_is_err_and}
use Rattle.std.proofs.lemmas.List.Elements.{All-filter}
use Rattle.ltl_form.specs.Formula.{signals_below}
use Rattle.tlsf_basic.specs.Words.{SpanWithin, lexemes_of}
use Rattle.tlsf_basic.specs.declared.words.Zone.TheVariants.{Heading}
use Rattle.tlsf_basic.specs.Mains.{read_text}
use Rattle.tlsf_basic.specs.Signals.{is_input, is_output, inputs_of, outputs_of, name_of, numbered, IsSignalBelow, IsKnown}
use Rattle.tlsf_basic.specs.Specification.{IsLexed, AreNamed, IsRefused}
use Rattle.tlsf_basic.proofs.Refusals.{err_gives, lex_refused, grammar_refused, is_read, names_refused, target_refused, number_refused, few_declared, inputs_named, outputs_named}
use Rattle.tlsf_basic.proofs.Kept.{target_within, placed_later, err_placed}
use Rattle.tlsf_basic.proofs.Numbered.{read_below}
use Rattle.tlsf_basic.proofs.specifications.read_spec.Goals as goal
use Rattle.tlsf_basic.proofs.specifications.read_spec.Goals.{In_ok-lexemes, In_ok-declared, In_ok-lexemes-2, In_ok-heading}

inputs_within : (c : In_ok-declared) → All (SpanWithin (length c.args.text.now)) c.in_ok-declared.declared.inputs.items
inputs_within c =
    subst (All (SpanWithin (length c.args.text.now))) (sym c.in_ok-declared.ensures.inputs)
    (All-filter (λ l. is_input l.symbol) (SpanWithin (length c.args.text.now)) _
    (subst (All (SpanWithin (length c.args.text.now))) (sym c.deref-2.ensures.value) c.in_ok-lexemes.ensures.within))

outputs_within : (c : In_ok-declared) → All (SpanWithin (length c.args.text.now)) c.in_ok-declared.declared.outputs.items
outputs_within c =
    subst (All (SpanWithin (length c.args.text.now))) (sym c.in_ok-declared.ensures.outputs)
    (All-filter (λ l. is_output l.symbol) (SpanWithin (length c.args.text.now)) _
    (subst (All (SpanWithin (length c.args.text.now))) (sym c.deref-2.ensures.value) c.in_ok-lexemes.ensures.within))

pub numbered-requires-clause-inputs : goal.numbered-requires-clause-inputs
numbered-requires-clause-inputs c = inputs_within (goal.at.numbered-requires-clause-inputs c).In_ok-declared

pub numbered-requires-clause-outputs : goal.numbered-requires-clause-outputs
numbered-requires-clause-outputs c = outputs_within (goal.at.numbered-requires-clause-outputs c).In_ok-declared

pub names_of-requires-clause-inputs : goal.names_of-requires-clause-inputs
names_of-requires-clause-inputs c = inputs_within (goal.at.names_of-requires-clause-inputs c).In_ok-declared

pub names_of-requires-clause-outputs : goal.names_of-requires-clause-outputs
names_of-requires-clause-outputs c = outputs_within (goal.at.names_of-requires-clause-outputs c).In_ok-declared

pub returns-in_err-check_target-clause-place : goal.returns-in_err-check_target-clause-place
returns-in_err-check_target-clause-place c =
    let p = err_from_is_err_and c.from_residual-in_err-check_target.result c.from_residual-in_err-check_target.ensures.1 in
    let w = subst (All (SpanWithin (length c.args.text.now))) (sym c.deref-4.ensures.value) c.in_ok-lexemes-2.ensures.within in
    err_placed (length c.args.text.now) _ _ _ p.1 p.2
    (placed_later c.in_ok-heading.heading.target.place (length c.args.text.now) c.in_err-check_target.field-0.0
    (target_within (length c.args.text.now) c.deref-4.result.now _ w c.in_ok-heading.ensures.value)
    c.in_err-check_target.ensures.place)

pub returns-in_err-check_count-clause-place : goal.returns-in_err-check_count-clause-place
returns-in_err-check_count-clause-place c =
    let p = err_from_is_err_and c.from_residual-in_err-check_count.result c.from_residual-in_err-check_count.ensures.1 in
    let d = (goal.at.returns-in_err-check_count-clause-place c).In_ok-declared in
    err_placed (length c.args.text.now) _ _ _ p.1 p.2
    (c.in_err-check_count.ensures.place (length c.args.text.now) (inputs_within d) (outputs_within d))

pub returns-clause-numbered : goal.returns-clause-numbered
returns-clause-numbered c =
    let n : ℕ = vec_len c.in_ok-declared.declared.inputs + vec_len c.in_ok-declared.declared.outputs in
    let below = subst (All (IsSignalBelow n)) (sym c.deref-4.ensures.value) c.in_ok-lexemes-2.ensures.below in
    let known = subst (All IsKnown) (c.deref-5.ensures.value ∙ sym c.deref-4.ensures.value) c.in_ok-check_names.ensures.known in
    let read = read_below n c.deref-4.result.now _ c.in_ok-heading.heading.semantics.strict below known c.in_ok-heading.ensures.value in
    subst (λ k. signals_below k c.in_ok-formula.formula ≡ true) (sym c.in_ok-names.ensures.count)
    (subst (λ f. signals_below n f ≡ true) (sym c.in_ok-formula.ensures) read)

numbered_same : (c : In_ok-lexemes-2) → c.in_ok-lexemes-2.lexemes.items ≡ numbered c.args.text.now c.in_ok-lexemes.lexemes.items
numbered_same c = c.in_ok-lexemes-2.ensures.value ∙ ap (numbered c.args.text.now) c.deref-3.ensures.value

lexed : (c : In_ok-lexemes) → IsLexed c.args.text.now c.in_ok-lexemes.lexemes.items
lexed c = (c.in_ok-tokens.tokens.items, c.in_ok-tokens.ensures.value, c.in_ok-lexemes.ensures.value ∙ ap (lexemes_of c.args.text.now Heading) c.deref.ensures.value)

inputs_are : (c : In_ok-declared) → c.in_ok-declared.declared.inputs.items ≡ inputs_of c.in_ok-lexemes.lexemes.items
inputs_are c = c.in_ok-declared.ensures.inputs ∙ ap inputs_of c.deref-2.ensures.value

outputs_are : (c : In_ok-declared) → c.in_ok-declared.declared.outputs.items ≡ outputs_of c.in_ok-lexemes.lexemes.items
outputs_are c = c.in_ok-declared.ensures.outputs ∙ ap outputs_of c.deref-2.ensures.value

pub returns-in_err-tokens-clause-fault : goal.returns-in_err-tokens-clause-fault
returns-in_err-tokens-clause-fault c =
    let p = err_from_is_err_and c.from_residual.result c.from_residual.ensures.1 in
    err_gives (IsRefused c.args.text.now c.args.as_written) _ _ _ p.1 p.2 (lex_refused c.args.text.now c.args.as_written c.in_err-tokens.field-0.0 c.in_err-tokens.ensures.value)

pub returns-in_err-heading-clause-fault : goal.returns-in_err-heading-clause-fault
returns-in_err-heading-clause-fault c =
    let p = err_from_is_err_and c.from_residual-in_err-heading.result c.from_residual-in_err-heading.ensures.1 in
    let a = goal.at.returns-in_err-heading-clause-fault c in
    err_gives (IsRefused c.args.text.now c.args.as_written) _ _ _ p.1 p.2
    (grammar_refused c.args.text.now c.args.as_written c.in_ok-lexemes.lexemes.items c.deref-4.result.now (lexed a.In_ok-lexemes) (c.deref-4.ensures.value ∙ numbered_same a.In_ok-lexemes-2) c.in_err-heading.field-0.0 c.in_err-heading.ensures.value)

pub returns-in_err-check_names-clause-fault : goal.returns-in_err-check_names-clause-fault
returns-in_err-check_names-clause-fault c =
    let p = err_from_is_err_and c.from_residual-in_err-check_names.result c.from_residual-in_err-check_names.ensures.1 in
    let a = goal.at.returns-in_err-check_names-clause-fault c in
    err_gives (IsRefused c.args.text.now c.args.as_written) _ _ _ p.1 p.2
    (names_refused c.args.text.now c.args.as_written c.in_ok-lexemes.lexemes.items c.deref-5.result.now (lexed a.In_ok-lexemes) (c.deref-5.ensures.value ∙ numbered_same a.In_ok-lexemes-2)
    c.in_ok-heading.heading c.in_ok-heading.sections (ap (read_text 256) (c.deref-5.ensures.value ∙ sym c.deref-4.ensures.value) ∙ c.in_ok-heading.ensures.value) c.in_err-check_names.field-0.0 c.in_err-check_names.ensures.fault)

pub returns-in_err-check_target-clause-fault : goal.returns-in_err-check_target-clause-fault
returns-in_err-check_target-clause-fault c =
    let p = err_from_is_err_and c.from_residual-in_err-check_target.result c.from_residual-in_err-check_target.ensures.1 in
    let a = goal.at.returns-in_err-check_target-clause-fault c in
    err_gives (IsRefused c.args.text.now c.args.as_written) _ _ _ p.1 p.2
    (target_refused c.args.text.now c.args.as_written c.in_ok-lexemes.lexemes.items c.deref-5.result.now (lexed a.In_ok-lexemes) (c.deref-5.ensures.value ∙ numbered_same a.In_ok-lexemes-2)
    c.in_ok-heading.heading c.in_ok-heading.sections (ap (read_text 256) (c.deref-5.ensures.value ∙ sym c.deref-4.ensures.value) ∙ c.in_ok-heading.ensures.value) c.in_ok-check_names.ensures.named c.in_err-check_target.field-0.0 c.in_err-check_target.ensures.fault)

pub returns-in_err-check_count-clause-fault : goal.returns-in_err-check_count-clause-fault
returns-in_err-check_count-clause-fault c =
    let p = err_from_is_err_and c.from_residual-in_err-check_count.result c.from_residual-in_err-check_count.ensures.1 in
    let a = goal.at.returns-in_err-check_count-clause-fault c in
    err_gives (IsRefused c.args.text.now c.args.as_written) _ _ _ p.1 p.2
    (number_refused c.args.text.now c.args.as_written c.in_ok-lexemes.lexemes.items c.deref-5.result.now (lexed a.In_ok-lexemes) (c.deref-5.ensures.value ∙ numbered_same a.In_ok-lexemes-2)
    c.in_ok-heading.heading c.in_ok-heading.sections (ap (read_text 256) (c.deref-5.ensures.value ∙ sym c.deref-4.ensures.value) ∙ c.in_ok-heading.ensures.value) c.in_ok-check_names.ensures.named
    (c.in_ok-declared.declared.inputs.items ++ c.in_ok-declared.declared.outputs.items) (ap (λ z. z ++ c.in_ok-declared.declared.outputs.items) (inputs_are a.In_ok-declared) ∙ ap (λ z. inputs_of c.in_ok-lexemes.lexemes.items ++ z) (outputs_are a.In_ok-declared))
    c.in_ok-check_target.ensures.agrees c.in_err-check_count.field-0.0 c.in_err-check_count.ensures.fault)

pub returns-clause-spec : goal.returns-clause-spec
returns-clause-spec c =
    let a = goal.at.returns-clause-spec c in
    let v = c.in_ok-lexemes.lexemes.items in
    let same = c.deref-5.ensures.value ∙ numbered_same a.In_ok-lexemes-2 in
    record {
      lexemes = v;
      heading = c.in_ok-heading.heading;
      sections = c.in_ok-heading.sections;
      lexed = lexed a.In_ok-lexemes;
      read = is_read c.args.text.now c.args.as_written v c.deref-5.result.now (lexed a.In_ok-lexemes) same c.in_ok-heading.heading c.in_ok-heading.sections (ap (read_text 256) (c.deref-5.ensures.value ∙ sym c.deref-4.ensures.value) ∙ c.in_ok-heading.ensures.value);
      named = subst (AreNamed c.args.text.now) same c.in_ok-check_names.ensures.named;
      agrees = c.in_ok-check_target.ensures.agrees;
      few = few_declared v _ _ _ _ (inputs_are a.In_ok-declared) (outputs_are a.In_ok-declared) c.in_ok-declared.declared.inputs.ok.0 c.in_ok-declared.declared.outputs.ok.0 c.in_ok-check_count.ensures.few;
      inputs = c.in_ok-names.ensures.inputs ∙ ap (λ z. map encode_utf8_all (map (name_of c.args.text.now) z)) (inputs_are a.In_ok-declared) ∙ inputs_named c.args.text.now v (lexed a.In_ok-lexemes);
      outputs = c.in_ok-names.ensures.outputs ∙ ap (λ z. map encode_utf8_all (map (name_of c.args.text.now) z)) (outputs_are a.In_ok-declared) ∙ outputs_named c.args.text.now v (lexed a.In_ok-lexemes);
      target = c.in_ok-names.ensures.target;
      formula = c.in_ok-formula.ensures;
    }
