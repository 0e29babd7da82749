-- Texts that are joined from lines.
use Rattle.std.proofs.Common.{◌≡◌, ℕ, ◌+◌, ◌<◌, List, [], ◌∷◌, ◌++◌, append_assoc, length, get_or, drop, refl, sym, ap, ◌∙◌}
use Rattle.std.proofs.lemmas.List.{drop_more}
use Rattle.word_core.specs.declared.machines.Line.{Line}
use Rattle.machine_text.specs.Lines.{joined}
use Rattle.machine_text.specs.Machines.{state_lines, states_lines}

pub joined_append : (a b : List (List ℕ)) → joined (a ++ b) ≡ joined a ++ joined b
joined_append [] b = refl
joined_append (l ∷ ls) b =
    ap (λ t. l ++ 10 ∷ t) (joined_append ls b) ∙ sym (append_assoc l (10 ∷ joined ls) (joined b))

-- the lines of one more state
pub state_step : (text : List ℕ) (own others s : ℕ) (states : List (List Line)) (lines : List Line) → s < length states → lines ≡ get_or states s [] → (text ++ joined (state_lines own others s lines)) ++ joined (states_lines own others (s + 1) (drop (s + 1) states)) ≡ text ++ joined (states_lines own others s (drop s states))
state_step text own others s states lines h e =
    append_assoc text (joined (state_lines own others s lines)) (joined (states_lines own others (s + 1) (drop (s + 1) states)))
    ∙ ap (λ t. text ++ t) (sym (joined_append (state_lines own others s lines) (states_lines own others (s + 1) (drop (s + 1) states))))
    ∙ ap (λ ls. text ++ joined (states_lines own others s ls)) (ap (λ l. l ∷ drop (s + 1) states) e ∙ sym (drop_more states s [] h))
