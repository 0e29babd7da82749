-- The scan by steps: what it keeps, and what it gives at the end.
use Rattle.std.proofs.Common.{◌≡◌, ℕ, zero, suc, ◌+◌, ◌-◌, ◌<◌, ◌≤◌, List, [], ◌∷◌, ◌++◌, length, drop, length-drop, Result, Ok, Err, sym, refl, ap, ◌∙◌, subst, arith, append_assoc, add-zero}
use Rattle.std.specs.Prelude.{All, AllPairs}
use Rattle.std.proofs.lemmas.List.{drop_more, drop-drop, drop_all, append-nil}
use Rattle.std.proofs.lemmas.List.Elements.{All-push, All-weaker, All-get_or}
use Rattle.std.proofs.lemmas.List.Quantifiers.{all_pairs_push}
use Rattle.tlsf_lex.specs.declared.tokens.Kin.{Kin}
use Rattle.tlsf_lex.specs.declared.tokens.LexFault.{LexFault}
use Rattle.tlsf_lex.specs.declared.tokens.Token.{Token}
use Rattle.tlsf_lex.specs.declared.steps.Step.TheVariants.{Skip, Take, Bad}
use Rattle.tlsf_lex.specs.Steps.{step}
use Rattle.tlsf_lex.specs.Tokens.{Placed, in_front, by_step, tokens_at, tokens_of, IsWithin, IsBefore}

-- tokens in front of those that follow
abbrev pub joined : List Token → Result (List Token) Placed → Result (List Token) Placed
joined ts (Ok us) = Ok (ts ++ us)
joined ts (Err e) = Err e

-- bytes to be passed over are passed over
passed : (at n : ℕ) (text : List ℕ) → tokens_at at n text ≡ tokens_at (at + n) 0 (drop n text)
unfolding tokens_at
passed at zero text = ap (λ k. tokens_at k 0 text) (sym (add-zero at))
passed at (suc n) [] = refl
passed at (suc n) (b ∷ text) =
    let place : at + 1 + n ≡ at + suc n = omega arith in
    passed (at + 1) n text ∙ ap (λ k. tokens_at k 0 (drop n text)) place

opened : (at b : ℕ) (rest text : List ℕ) → text ≡ b ∷ rest → tokens_at at 0 text ≡ by_step (step text) at (λ n. tokens_at (at + 1) n rest)
unfolding tokens_at
opened at b rest text is =
    subst (λ ys. tokens_at at 0 ys ≡ by_step (step ys) at (λ n. tokens_at (at + 1) n rest)) (sym is) refl

-- behind a step of some bytes the scan goes on
goes_on : (at n : ℕ) (text : List ℕ) → 0 < n → tokens_at (at + 1) (n - 1) (drop (at + 1) text) ≡ tokens_at (at + n) 0 (drop (at + n) text)
goes_on at n text some =
    let place : at + 1 + (n - 1) ≡ at + n = omega arith in
    passed (at + 1) (n - 1) (drop (at + 1) text)
    ∙ ap (λ ys. tokens_at (at + 1 + (n - 1)) 0 ys) (drop-drop (n - 1) (at + 1) text)
    ∙ ap (λ k. tokens_at k 0 (drop k text)) place

module _ (at : ℕ) (text : List ℕ) (within : at < length text) where
  by_first : tokens_at at 0 (drop at text) ≡ by_step (step (drop at text)) at (λ n. tokens_at (at + 1) n (drop (at + 1) text))
  by_first = opened at _ (drop (at + 1) text) (drop at text) (drop_more text at 0 within)

  at_skip : (n : ℕ) → step (drop at text) ≡ Skip n → 0 < n → tokens_at at 0 (drop at text) ≡ tokens_at (at + n) 0 (drop (at + n) text)
  at_skip n is some =
      by_first ∙ ap (λ s. by_step s at (λ n. tokens_at (at + 1) n (drop (at + 1) text))) is ∙ goes_on at n text some

  at_take : (kin : Kin) (n : ℕ) → step (drop at text) ≡ Take kin n → 0 < n → tokens_at at 0 (drop at text) ≡ in_front (record { kin = kin; «from» = at; to = at + n }) (tokens_at (at + n) 0 (drop (at + n) text))
  at_take kin n is some =
      by_first ∙ ap (λ s. by_step s at (λ n. tokens_at (at + 1) n (drop (at + 1) text))) is
      ∙ ap (in_front (record { kin = kin; «from» = at; to = at + n })) (goes_on at n text some)

  at_bad : (what : LexFault) (past : ℕ) → step (drop at text) ≡ Bad what past → tokens_at at 0 (drop at text) ≡ Err (what, at + past)
  at_bad what past is =
      by_first ∙ ap (λ s. by_step s at (λ n. tokens_at (at + 1) n (drop (at + 1) text))) is

joined-in_front : (ts : List Token) (t : Token) (r : Result (List Token) Placed) → joined ts (in_front t r) ≡ joined (ts ++ t ∷ []) r
joined-in_front ts t (Ok us) = ap Ok (sym (append_assoc ts (t ∷ []) us))
joined-in_front ts t (Err e) = refl

at_end : (at : ℕ) (text : List ℕ) (ts : List Token) → length text ≤ at → joined ts (tokens_at at 0 (drop at text)) ≡ Ok ts
unfolding tokens_at
at_end at text ts past = rw (drop_all at text past, append-nil) refl

-- tokens that stand before a place of a text of some length, in order
pub record AreBefore (len at : ℕ) (ts : List Token) : Type 0 where
  pub within : All (IsWithin len) ts
  pub ordered : AllPairs IsBefore ts
  pub before : All (λ t. t.to ≤ at) ts

AreBefore-later : {len at : ℕ} {ts : List Token} (n : ℕ) → AreBefore len at ts → AreBefore len (at + n) ts
AreBefore-later {len} {at} {ts} n b = record {
  within = b.within;
  ordered = b.ordered;
  before = All-weaker (λ t. t.to ≤ at) (λ t. t.to ≤ at + n) (λ t h. omega arith) ts b.before;
}

AreBefore-push : {len at : ℕ} {ts : List Token} (kin : Kin) (n : ℕ) → AreBefore len at ts → 0 < n → at + n ≤ len → AreBefore len (at + n) (ts ++ record { kin = kin; «from» = at; to = at + n } ∷ [])
AreBefore-push {len} {at} {ts} kin n b some fits = record {
  within = All-push (IsWithin len) ts (record { kin = kin; «from» = at; to = at + n }) b.within (omega arith, fits);
  ordered = all_pairs_push IsBefore ts (record { kin = kin; «from» = at; to = at + n }) b.ordered (λ k d h. All-get_or (λ t. t.to ≤ at) ts k d h b.before);
  before = All-push (λ t. t.to ≤ at + n) ts (record { kin = kin; «from» = at; to = at + n }) (AreBefore-later n b).before (omega arith);
}

-- the scan has come to a place of the text, with the tokens before it
pub record Scanned (text : List ℕ) (at : ℕ) (ts : List Token) : Type 0 where
  pub within : at ≤ length text
  pub before : AreBefore (length text) at ts
  pub tokens : joined ts (tokens_at at 0 (drop at text)) ≡ tokens_of text

pub Scanned-start : (text : List ℕ) → Scanned text 0 []
Scanned-start text = record {
  within = omega arith;
  before = record { within = λ k d h. absurd (omega arith); ordered = λ i j d _ h. absurd (omega arith); before = λ k d h. absurd (omega arith) };
  tokens = joined-nil (tokens_of text);
} where
  joined-nil : (r : Result (List Token) Placed) → joined [] r ≡ r
  joined-nil (Ok us) = refl
  joined-nil (Err e) = refl

module _ {text : List ℕ} {at : ℕ} {ts : List Token} (s : Scanned text at ts) (below : at < length text) (rest : List ℕ) (is : rest ≡ drop at text) where
  fits : (n : ℕ) → n ≤ length rest → at + n ≤ length text
  fits n h = omega (arith, ap length is, length-drop at text)

  pub Scanned-skip : (n : ℕ) → Skip n ≡ step rest → 0 < n → n ≤ length rest → Scanned text (at + n) ts
  Scanned-skip n stepped some short = record {
    within = fits n short;
    before = AreBefore-later n s.before;
    tokens = ap (joined ts) (sym (at_skip at text below n (ap step (sym is) ∙ sym stepped) some)) ∙ s.tokens;
  }

  pub Scanned-take : (kin : Kin) (n : ℕ) → Take kin n ≡ step rest → 0 < n → n ≤ length rest → Scanned text (at + n) (ts ++ record { kin = kin; «from» = at; to = at + n } ∷ [])
  Scanned-take kin n stepped some short = record {
    within = fits n short;
    before = AreBefore-push kin n s.before some (fits n short);
    tokens =
        sym (joined-in_front ts (record { kin = kin; «from» = at; to = at + n }) (tokens_at (at + n) 0 (drop (at + n) text)))
        ∙ ap (joined ts) (sym (at_take at text below kin n (ap step (sym is) ∙ sym stepped) some)) ∙ s.tokens;
  }

  pub Scanned-bad : (what : LexFault) (past : ℕ) → Bad what past ≡ step rest → tokens_of text ≡ Err (what, at + past)
  Scanned-bad what past stepped =
      sym s.tokens ∙ ap (joined ts) (at_bad at text below what past (ap step (sym is) ∙ sym stepped))

  pub bad_place : (past : ℕ) → past < length rest → at + past < length text
  bad_place past h = omega (arith, ap length is, length-drop at text)

pub Scanned-end : {text : List ℕ} {at : ℕ} {ts : List Token} → Scanned text at ts → length text ≤ at → tokens_of text ≡ Ok ts
Scanned-end {text} {at} {ts} s past = sym s.tokens ∙ at_end at text ts past

pub Scanned-within : {text : List ℕ} {at : ℕ} {ts : List Token} → Scanned text at ts → All (IsWithin (length text)) ts
Scanned-within s = s.before.within

pub Scanned-ordered : {text : List ℕ} {at : ℕ} {ts : List Token} → Scanned text at ts → AllPairs IsBefore ts
Scanned-ordered s = s.before.ordered
