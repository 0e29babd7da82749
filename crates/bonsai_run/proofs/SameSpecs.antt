-- What is said of one reading of a specification is said of each.
use Rattle.std.proofs.Common.{String, Global, ◌≡◌, ℕ, ◌+◌, ◌<◌, ◌≤◌, ◌⊎◌, inl, inr, Bool, true, List, [], ◌∷◌, ◌++◌, length, map, codes, string_bytes, refl, sym, ap, ◌∙◌, subst}
use Rattle.std.specs.Prelude.{◌↔◌}
use Rattle.std.specs.List.{All}
use Rattle.std.proofs.lemmas.List.{length-map}
use Rattle.std.proofs.lemmas.List.Elements.{All-nil, All-cons, All-head, All-tail}
use Rattle.ltl_form.specs.declared.normals.Node.{Node}
use Rattle.ltl_form.specs.Meaning.{holds_at}
use Rattle.ltl_form.specs.Numbered.{numbered}
use Rattle.ltl_form.specs.Tree.{normal_tree}
use Rattle.tableau_nba.specs.Walks.{Outcome, all_spots, automaton_in, walk_data}
use Rattle.tableau_nba.specs.Walks.Outcome.{found, too_wide, too_many}
use Rattle.nba_trim.specs.Trimmed.{IsTrimmed}
use Rattle.tlsf_basic.specs.declared.specifications.Spec.{Spec}
use Rattle.tlsf_basic.specs.declared.words.Zone.TheVariants as zone
use Rattle.tlsf_basic.specs.Laws.{IsSameSpec}
use Rattle.tlsf_basic.specs.Signals.{inputs_of, outputs_of, name_of}
use Rattle.tlsf_basic.specs.Specification.{IsSpec, signal_count}
use Rattle.tlsf_basic.specs.Words.{lexemes_of}
use Rattle.tlsf_basic.proofs.Ascii.{StandsInLine, inputs_in_line, outputs_in_line}
use Rattle.word_core.specs.declared.names.Player.{Player}
use Rattle.word_core.specs.declared.names.Player.TheVariants.{System, Environment}
use Rattle.word_core.specs.Automaton.{AutomatonData}
use Rattle.word_core.specs.Lasso.{LassoData}
use Rattle.word_core.specs.Machine.{MachineData, own_of, other_of}
use Rattle.word_core.specs.Run.{Accepts}
use Rattle.machine_text.specs.Lines.{joined}
use Rattle.machine_text.specs.Machines.{AreWhole, IsDraft, Spells, count_text, heading_lines, kind_of, machine_text, names_text, owner_text, spaced, states_lines}
use Rattle.dual_game.specs.declared.errors.GameError.{GameError}
use Rattle.dual_game.specs.declared.errors.GameError.TheVariants.{TooManyFormulas, TooWide, TooManyStates, Memory}
use Rattle.dual_game.specs.Automata.{avoided, avoids_truth, formula_count, HasTableau, HasWalkLimit, IsAutomatonOf, IsLimitOf, IsLimitOfPair, IsNormalOf}

-- ---- names

abbrev head_or : List ℕ → List (List ℕ) → List ℕ
head_or d [] = d
head_or d (x ∷ xs) = x

abbrev tail_of : List (List ℕ) → List (List ℕ)
tail_of [] = []
tail_of (x ∷ xs) = xs

nothing : (x : List ℕ) (xs : List (List ℕ)) → [] ≡ x ∷ xs → ⊥
nothing x xs e = cc

spaced_same : (a b : List (String Global)) → map string_bytes a ≡ map string_bytes b → spaced a ≡ spaced b
spaced_same [] [] e = refl
spaced_same [] (y ∷ b) e = absurd (nothing _ _ e)
spaced_same (x ∷ a) [] e = absurd (nothing _ _ (sym e))
spaced_same (x ∷ a) (y ∷ b) e =
    ap (λ n. 32 ∷ n ++ spaced a) (ap (head_or []) e) ∙ ap (λ r. 32 ∷ string_bytes y ++ r) (spaced_same a b (ap tail_of e))

length_same : (a b : List (String Global)) → map string_bytes a ≡ map string_bytes b → length a ≡ length b
length_same a b e = sym (length-map a string_bytes) ∙ ap length e ∙ length-map b string_bytes

whole_names : (names : List (String Global)) (lines : List (List ℕ)) → map string_bytes names ≡ lines → All StandsInLine lines → AreWhole names
whole_names [] lines e all = All-nil (λ n. StandsInLine (string_bytes n))
whole_names (n ∷ names) lines e all =
    let all' : All StandsInLine (string_bytes n ∷ map string_bytes names) = subst (All StandsInLine) (sym e) all in
    All-cons (λ n. StandsInLine (string_bytes n)) n names (All-head StandsInLine (string_bytes n) (map string_bytes names) all')
    (whole_names names (map string_bytes names) refl (All-tail StandsInLine (string_bytes n) (map string_bytes names) all'))

-- no name of a specification has a line feed
pub inputs_whole : (text : List ℕ) (as_written : Bool) (spec : Spec) → IsSpec text as_written spec → AreWhole spec.names.inputs.items
inputs_whole text as_written spec s =
    let lexed = s.lexed in
    whole_names spec.names.inputs.items (map (name_of text) (inputs_of (lexemes_of text zone.Heading lexed.0)))
    (s.inputs ∙ ap (λ v. map (name_of text) (inputs_of v)) lexed.2) (inputs_in_line text zone.Heading lexed.0 lexed.1)

pub outputs_whole : (text : List ℕ) (as_written : Bool) (spec : Spec) → IsSpec text as_written spec → AreWhole spec.names.outputs.items
outputs_whole text as_written spec s =
    let lexed = s.lexed in
    whole_names spec.names.outputs.items (map (name_of text) (outputs_of (lexemes_of text zone.Heading lexed.0)))
    (s.outputs ∙ ap (λ v. map (name_of text) (outputs_of v)) lexed.2) (outputs_in_line text zone.Heading lexed.0 lexed.1)

-- ---- machines and automata

abbrev IsPassed : Spec → Outcome → Type 0
IsPassed u how = HasTableau u System how ⊎ ((a : AutomatonData) × IsAutomatonOf u System a × HasTableau u Environment how)

module _ (s t : Spec) (same : IsSameSpec s t) where
  pub inputs_same : length s.names.inputs.items ≡ length t.names.inputs.items
  inputs_same = length_same s.names.inputs.items t.names.inputs.items same.0

  pub outputs_same : length s.names.outputs.items ≡ length t.names.outputs.items
  outputs_same = length_same s.names.outputs.items t.names.outputs.items same.1

  pub count_same : signal_count s.names ≡ signal_count t.names
  count_same = ap (λ n. n + length s.names.outputs.items) inputs_same ∙ ap (λ n. length t.names.inputs.items + n) outputs_same

  draft_same : (m : MachineData) → IsDraft s.names m → IsDraft t.names m
  draft_same m d = record {
    kind = d.kind ∙ ap (λ k. kind_of k m.player) same.2;
    inputs = d.inputs ∙ inputs_same;
    outputs = d.outputs ∙ outputs_same;
    begins = d.begins;
    counted = d.counted;
    ranged = d.ranged;
  }

  pub text_same : (m : MachineData) → machine_text s.names m ≡ machine_text t.names m
  text_same m =
      let rest = states_lines (own_of m) (other_of m) 0 m.states in
      ap (λ i. joined (owner_text m.player m.kind ∷ (codes "inputs" ++ i) ∷ names_text (codes "outputs") s.names.outputs.items ∷ count_text (length m.states) ∷ rest)) (spaced_same s.names.inputs.items t.names.inputs.items same.0)
      ∙ ap (λ o. joined (owner_text m.player m.kind ∷ names_text (codes "inputs") t.names.inputs.items ∷ (codes "outputs" ++ o) ∷ count_text (length m.states) ∷ rest)) (spaced_same s.names.outputs.items t.names.outputs.items same.1)

  pub spells_same : (text : List ℕ) (m : MachineData) → Spells s.names text m → Spells t.names text m
  spells_same text m h = (h.0, h.1, draft_same m h.2, h.3 ∙ ap (λ x. joined (heading_lines h.0) ++ x) (text_same m))

  pub formulas_same : (who : Player) → formula_count s who ≡ formula_count t who
  formulas_same who = ap (λ f. length (numbered (normal_tree f (avoids_truth who)) [])) same.3

  normal_same : (who : Player) (nodes : List Node) (root : ℕ) → IsNormalOf s who nodes root → IsNormalOf t who nodes root
  normal_same who nodes root n = record {
    is = n.is;
    distinct = n.distinct;
    numbers = n.numbers ∙ ap (λ f. numbered (normal_tree f (avoids_truth who)) []) same.3;
    whole = n.whole ∙ ap (λ f. normal_tree f (avoids_truth who)) same.3;
  }

  tableau_same : (who : Player) (how : Outcome) → HasTableau s who how → HasTableau t who how
  tableau_same who how h = record {
    nodes = h.nodes;
    root = h.root;
    normal = normal_same who h.nodes h.root h.normal;
    walk = subst (λ n. all_spots (walk_data h.nodes n) h.root ≡ how) count_same h.walk;
  }

  pub automaton_same : (who : Player) (a : AutomatonData) → IsAutomatonOf s who a → IsAutomatonOf t who a
  automaton_same who a h = record {
    nodes = h.nodes;
    root = h.root;
    spots = h.spots;
    normal = normal_same who h.nodes h.root h.normal;
    walk = subst (λ n. all_spots (walk_data h.nodes n) h.root ≡ found h.spots) count_same h.walk;
    trimmed = subst (λ n. IsTrimmed (automaton_in (walk_data h.nodes n) h.spots) a) count_same h.trimmed;
    well = h.well;
    accepts = subst (λ f. (w : LassoData) → 0 < length w.cycle → Accepts a w ↔ (avoided who (holds_at w f 0) ≡ true)) same.3 h.accepts;
  }

  pub limit_same : (who : Player) (e : GameError) → IsLimitOf s who e → IsLimitOf t who e
  limit_same who TooManyFormulas h = subst (λ n. 512 < n) (formulas_same who) h
  limit_same who TooWide h = tableau_same who too_wide h
  limit_same who TooManyStates h = tableau_same who too_many h
  limit_same who Memory h = tt

  passed_same : (how : Outcome) → IsPassed s how → IsPassed t how
  passed_same how (inl h) = inl (tableau_same System how h)
  passed_same how (inr h) = inr (h.0, automaton_same System h.0 h.1, tableau_same Environment how h.2)

  walk_same : (how : Outcome) → HasWalkLimit s how → HasWalkLimit t how
  walk_same how h = record { few = λ who. subst (λ n. n ≤ 512) (formulas_same who) (h.few who); passed = passed_same how h.passed }

  many_same : (512 < formula_count s System) ⊎ (512 < formula_count s Environment) → (512 < formula_count t System) ⊎ (512 < formula_count t Environment)
  many_same (inl h) = inl (subst (λ n. 512 < n) (formulas_same System) h)
  many_same (inr h) = inr (subst (λ n. 512 < n) (formulas_same Environment) h)

  pub pair_limit_same : (e : GameError) → IsLimitOfPair s e → IsLimitOfPair t e
  pair_limit_same TooManyFormulas h = many_same h
  pair_limit_same TooWide h = walk_same too_wide h
  pair_limit_same TooManyStates h = walk_same too_many h
  pair_limit_same Memory h = tt
