-- What holds of the lexemes of a text.
use Rattle.std.proofs.Common.{◌≡◌, ℕ, ◌+◌, ◌<◌, ◌≤◌, Bool, true, false, cond, List, [], ◌∷◌, ◌++◌, drop, length, get_or, sym, refl, ap, ◌∙◌, append_assoc}
use Rattle.std.specs.Prelude.{All, ◌&&◌, slice_range}
use Rattle.std.specs.Str.{bytes_eq}
use Rattle.std.proofs.lemmas.List.{drop_more, drop_all, append-nil}
use Rattle.std.proofs.lemmas.List.Elements.{All-nil, All-cons, All-head, All-tail}
use Rattle.tlsf_lex.specs.declared.tokens.Kin.{Kin}
use Rattle.tlsf_lex.specs.declared.tokens.Kin.TheVariants as kin
use Rattle.tlsf_lex.specs.declared.tokens.Token.{Token}
use Rattle.tlsf_lex.specs.Tokens.{IsWithin}
use Rattle.tlsf_basic.specs.declared.symbols.Symbol.{Symbol}
use Rattle.tlsf_basic.specs.declared.symbols.Symbol.TheVariants as s
use Rattle.tlsf_basic.specs.declared.symbols.Lexeme.{Lexeme}
use Rattle.tlsf_basic.specs.declared.words.Zone.{Zone}
use Rattle.tlsf_basic.specs.declared.words.Zone.TheVariants as zone
use Rattle.tlsf_basic.specs.Words.{words, look_up, word_symbol, symbol_of, zone_after, name_in, in_zone, lexeme_of, zone_behind, lexemes_of, SpanWithin}
use Rattle.tlsf_basic.specs.Signals.{IsSymbolFresh, IsFresh}

lexemes_step : (text : List ℕ) (z : Zone) (ts : List Token) (i : ℕ) (d : Token) (done : List Lexeme) → i < length ts → done ++ lexemes_of text z (drop i ts) ≡ (done ++ lexeme_of text (zone_behind text z (get_or ts i d)) (get_or ts i d) ∷ []) ++ lexemes_of text (zone_behind text z (get_or ts i d)) (drop (i + 1) ts)
unfolding lexemes_of
lexemes_step text z ts i d done below =
    let t = get_or ts i d in
    ap (λ us. done ++ lexemes_of text z us) (drop_more ts i d below)
    ∙ sym (append_assoc done (lexeme_of text (zone_behind text z t) t ∷ []) (lexemes_of text (zone_behind text z t) (drop (i + 1) ts)))

-- one more token of the list
pub lexemes_more : (text : List ℕ) (z zone' : Zone) (ts : List Token) (i : ℕ) (d : Token) (symbol placed : Symbol) (done pushed total : List Lexeme) → i < length ts → symbol ≡ symbol_of (get_or ts i d).kin (slice_range text (get_or ts i d).from (get_or ts i d).to) → zone' ≡ zone_after z symbol → placed ≡ in_zone zone' symbol → pushed ≡ done ++ record { symbol = placed; «from» = (get_or ts i d).from; to = (get_or ts i d).to } ∷ [] → done ++ lexemes_of text z (drop i ts) ≡ total → pushed ++ lexemes_of text zone' (drop (i + 1) ts) ≡ total
lexemes_more text z zone' ts i d symbol placed done pushed total below symbol_is zone_is placed_is pushed_is before =
    let t = get_or ts i d in
    let zone_same : zone' ≡ zone_behind text z t = zone_is ∙ ap (zone_after z) symbol_is in
    let placed_same : placed ≡ in_zone (zone_behind text z t) (symbol_of t.kin (slice_range text t.from t.to)) =
    placed_is ∙ ap (λ y. in_zone y symbol) zone_same ∙ ap (in_zone (zone_behind text z t)) symbol_is in
    let front : pushed ≡ done ++ lexeme_of text (zone_behind text z t) t ∷ [] =
    pushed_is ∙ ap (λ (y : Symbol). done ++ record { symbol = y; «from» = t.from; to = t.to } ∷ []) placed_same in
    ap (λ us. us ++ lexemes_of text zone' (drop (i + 1) ts)) front
    ∙ ap (λ y. (done ++ lexeme_of text (zone_behind text z t) t ∷ []) ++ lexemes_of text y (drop (i + 1) ts)) zone_same
    ∙ sym (lexemes_step text z ts i d done below) ∙ before

pub lexemes_end : (text : List ℕ) (z : Zone) (ts : List Token) (i : ℕ) (done : List Lexeme) → length ts ≤ i → done ++ lexemes_of text z (drop i ts) ≡ done
unfolding lexemes_of
lexemes_end text z ts i done past = rw (drop_all i ts past, append-nil) refl

pub lexemes_within : (len : ℕ) (text : List ℕ) (z : Zone) (ts : List Token) → All (IsWithin len) ts → All (SpanWithin len) (lexemes_of text z ts)
unfolding lexemes_of
lexemes_within len text z [] all = All-nil (SpanWithin len)
lexemes_within len text z (t ∷ ts) all =
    All-cons (SpanWithin len) (lexeme_of text (zone_behind text z t) t) (lexemes_of text (zone_behind text z t) ts)
    (All-head (IsWithin len) t ts all)
    (lexemes_within len text (zone_behind text z t) ts (All-tail (IsWithin len) t ts all))

name_in-fresh : (z : Zone) (word : Symbol) → IsSymbolFresh word → IsSymbolFresh (name_in z word)
name_in-fresh zone.Heading word f = f
name_in-fresh (zone.Declared side) word f = tt
name_in-fresh zone.Entries word f = tt

in_zone-fresh : (z : Zone) (symbol : Symbol) → IsSymbolFresh symbol → IsSymbolFresh (in_zone z symbol)
in_zone-fresh z s.Name f = name_in-fresh z s.Name tt
in_zone-fresh z (s.Kind kind) f = name_in-fresh z (s.Kind kind) tt
in_zone-fresh z s.Strict f = name_in-fresh z s.Strict tt
in_zone-fresh z symbol f = f

is_fresh : Symbol → Bool
is_fresh (s.Signal k) = false
is_fresh symbol = true

fresh_from : (symbol : Symbol) → is_fresh symbol ≡ true → IsSymbolFresh symbol
unfolding is_fresh
fresh_from (s.Signal k) e = cc
fresh_from symbol e = tt

all_fresh : List (List ℕ × Symbol) → Bool
all_fresh [] = true
all_fresh (p ∷ ps) = is_fresh p.1 && all_fresh ps

look_up-fresh : (ps : List (List ℕ × Symbol)) (bytes : List ℕ) → all_fresh ps ≡ true → IsSymbolFresh (look_up ps bytes)
unfolding all_fresh
look_up-fresh [] bytes all = tt
look_up-fresh (p ∷ ps) bytes all =
    go (bytes_eq p.0 bytes) (is_fresh p.1) refl all (look_up-fresh ps bytes) where
      go : (b c : Bool) → is_fresh p.1 ≡ c → (c && all_fresh ps) ≡ true → (all_fresh ps ≡ true → IsSymbolFresh (look_up ps bytes)) → IsSymbolFresh (cond b p.1 (look_up ps bytes))
      go true true e both rest = fresh_from p.1 e
      go false true e both rest = rest both
      go b false e both rest = cc

word_symbol-fresh : (bytes : List ℕ) → IsSymbolFresh (word_symbol bytes)
unfolding word_symbol all_fresh is_fresh
word_symbol-fresh bytes = look_up-fresh words bytes refl

symbol_of-fresh : (kin : Kin) (bytes : List ℕ) → IsSymbolFresh (symbol_of kin bytes)
symbol_of-fresh kin.Text bytes = tt
symbol_of-fresh kin.Full bytes = tt
symbol_of-fresh kin.Word bytes = word_symbol-fresh bytes
symbol_of-fresh kin.Mark bytes = word_symbol-fresh bytes

pub lexemes_fresh : (text : List ℕ) (z : Zone) (ts : List Token) → All IsFresh (lexemes_of text z ts)
unfolding lexemes_of
lexemes_fresh text z [] = All-nil IsFresh
lexemes_fresh text z (t ∷ ts) =
    All-cons IsFresh (lexeme_of text (zone_behind text z t) t) (lexemes_of text (zone_behind text z t) ts)
    (in_zone-fresh (zone_behind text z t) _ (symbol_of-fresh t.kin _))
    (lexemes_fresh text (zone_behind text z t) ts)
