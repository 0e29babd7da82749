-- The lines before those of the states.
use Rattle.std.proofs.Common.{Result, Ok, Err, IfOk, IfErr, ◌≡◌, ℕ, ◌+◌, ◌<◌, ◌^◌, List, [], ◌∷◌, ◌++◌, append_assoc, codes, Some, sym, ap, ◌∙◌, subst, arith}
use Rattle.word_core.specs.declared.names.Kind.{Kind}
use Rattle.word_core.specs.declared.names.Player.{Player}
use Rattle.word_core.specs.declared.names.Target.{Target}
use Rattle.machine_text.specs.declared.errors.BadLine.{BadLine}
use Rattle.machine_text.specs.Lines.{joined, IsWhole, NextIsNone}
use Rattle.machine_text.specs.Machines.{kind_of, owner_text, verdict_text, bound_text}
use Rattle.machine_text.specs.Reading.{IsOwnerLine, IsVerdictLine, IsNumberLine, IsLed, HasNoOwner}
use Rattle.machine_text.specs.Reading.HasNoOwner.{at_once, no_bound, no_owner}
use Rattle.machine_text.proofs.LineSplits.{none_without_feed, none_of}

pub joined_cons : (line : List ℕ) (lines : List (List ℕ)) (rest : List ℕ) → joined (line ∷ lines) ++ rest ≡ line ++ 10 ∷ (joined lines ++ rest)
joined_cons line lines rest = append_assoc line (10 ∷ joined lines) rest

pub owner_unfed : (target : Target) (text : List ℕ) (taken m : ℕ) → IsWhole text → m ≡ taken + 1 → HasNoOwner target text taken m
owner_unfed target text taken m w e =
    subst (HasNoOwner target text taken) (sym e) (at_once (none_without_feed IsVerdictLine text w) (none_without_feed (IsOwnerLine target) text w))

pub owner_other : (target : Target) (text line rest : List ℕ) (taken m : ℕ) → IsWhole line → text ≡ line ++ 10 ∷ rest → (IsVerdictLine line → ⊥) → (IsOwnerLine target line → ⊥) → m ≡ taken + 1 → HasNoOwner target text taken m
owner_other target text line rest taken m w t a b e =
    subst (HasNoOwner target text taken) (sym e) (at_once (none_of IsVerdictLine text line rest w t a) (none_of (IsOwnerLine target) text line rest w t b))

pub bound_bad : (target : Target) (text line rest : List ℕ) (taken now m : ℕ) → IsVerdictLine line → text ≡ line ++ 10 ∷ rest → now ≡ taken + 1 → (m ≡ now + 1) × NextIsNone (IsNumberLine (codes "bound ")) rest → HasNoOwner target text taken m
bound_bad target text line rest taken now m v t a h =
    let b : m ≡ now + 1 = h.0 in
    let e : taken + 2 ≡ m = omega arith in
    subst (HasNoOwner target text taken) e (no_bound v.0 rest (t ∙ ap (λ l. l ++ 10 ∷ rest) v.1) h.1)

-- the line of a bound stands next
abbrev pub IsBehindBound : List ℕ → List ℕ → ℕ → ℕ → Type 0
IsBehindBound text rest now now' =
    (bound : ℕ) × (bound < 2 ^ 64) × (text ≡ bound_text bound ++ 10 ∷ rest) × (now' ≡ now + 1)

pub owner_bad : (target : Target) (text line rest rest' : List ℕ) (taken now now' m : ℕ) → IsVerdictLine line → text ≡ line ++ 10 ∷ rest → now ≡ taken + 1 → IsBehindBound rest rest' now now' → (m ≡ now' + 1) × NextIsNone (IsOwnerLine target) rest' → HasNoOwner target text taken m
owner_bad target text line rest rest' taken now now' m v t a b h =
    let c : now' ≡ now + 1 = b.3 in
    let d : m ≡ now' + 1 = h.0 in
    let e : taken + 3 ≡ m = omega arith in
    subst (HasNoOwner target text taken) e (no_owner v.0 b.0 rest' b.1 (t ∙ ap (λ l. l ++ 10 ∷ rest) v.1 ∙ ap (λ r. verdict_text v.0 ++ 10 ∷ r) b.2) h.1)

pub led_behind : (target : Target) (player : Player) (kind : Kind) (text line rest rest' rest'' : List ℕ) (taken now now' now'' : ℕ) → IsVerdictLine line → text ≡ line ++ 10 ∷ rest → now ≡ taken + 1 → IsBehindBound rest rest' now now' → kind ≡ kind_of target player → rest' ≡ owner_text player kind ++ 10 ∷ rest'' → now'' ≡ now' + 1 → IsLed target player kind text rest'' taken now''
led_behind target player kind text line rest rest' rest'' taken now now' now'' v t a b k o e =
    let c : now' ≡ now + 1 = b.3 in
    record {
      heading = Some (v.0, b.0);
      bounded = b.1;
      fits = k;
      parts =
          t
          ∙ ap (λ l. l ++ 10 ∷ rest) v.1
          ∙ ap (λ r. verdict_text v.0 ++ 10 ∷ r) (b.2 ∙ ap (λ r. bound_text b.0 ++ 10 ∷ r) (o ∙ sym (joined_cons (owner_text player kind) [] rest'')) ∙ sym (joined_cons (bound_text b.0) (owner_text player kind ∷ []) rest''))
          ∙ sym (joined_cons (verdict_text v.0) (bound_text b.0 ∷ owner_text player kind ∷ []) rest'');
      place = omega arith;
    }

pub led_if : (target : Target) (r : Result (Player × Kind) BadLine) (text line rest rest' rest'' : List ℕ) (taken now now' now'' : ℕ) → IsVerdictLine line → text ≡ line ++ 10 ∷ rest → now ≡ taken + 1 → IsBehindBound rest rest' now now' → IfOk r (λ p. p.1 ≡ kind_of target p.0) → IfOk r (λ p. rest' ≡ owner_text p.0 p.1 ++ 10 ∷ rest'') → IfOk r (λ _. now'' ≡ now' + 1) → IfOk r (λ p. IsLed target p.0 p.1 text rest'' taken now'')
led_if target (Ok p) text line rest rest' rest'' taken now now' now'' v t a b k o e =
    led_behind target p.0 p.1 text line rest rest' rest'' taken now now' now'' v t a b k o e
led_if target (Err x) text line rest rest' rest'' taken now now' now'' v t a b k o e = tt

pub owner_if : (target : Target) (r : Result (Player × Kind) BadLine) (text line rest rest' : List ℕ) (taken now now' : ℕ) → IsVerdictLine line → text ≡ line ++ 10 ∷ rest → now ≡ taken + 1 → IsBehindBound rest rest' now now' → IfErr r (λ e. (e.0 ≡ now' + 1) × NextIsNone (IsOwnerLine target) rest') → IfErr r (λ e. HasNoOwner target text taken e.0)
owner_if target (Ok p) text line rest rest' taken now now' v t a b h = tt
owner_if target (Err x) text line rest rest' taken now now' v t a b h = owner_bad target text line rest rest' taken now now' x.0 v t a b h
