-- What the text of a note tells where it is read.
use Rattle.std.proofs.Common.{◌≡◌, ◌<◌, ◌+◌, ◌-◌, ◌^◌, ◌↔◌, ℕ, zero, suc, ℤ, pos, negsuc, nat_lt, FitsSigned, to_z, of_z, to_z-of_z, Bool, true, false, true≢false, ◌||◌, cond, eqb, eqb-true, eq-eqb, ne_eqb, lt-ltb, List, [], ◌∷◌, ◌++◌, length, length-append, length-drop, append_assoc, get_or, take, drop, map, decimal, All, Option, Some, None, IsSomeAnd, Result, Ok, Err, MatchResult, IfOk, IsOk, refl, ap, sym, ◌∙◌, subst, arith}
use denote.Ref.{Bor}
use Rattle.std.specs.Prelude.{Contains, filter}
use Rattle.std.specs.Fmt.{signed_decimal}
use Rattle.std.specs.Int.{int_div_euclid, w64}
use Rattle.std.specs.Int.Signed.{mag}
use Rattle.std.specs.List.{flat_map, list_any, onto_first, position, position_or_len, slice_split}
use Rattle.std.specs.Result.{result_ok}
use Rattle.std.specs.Str.{IsUtf8}
use Rattle.std.specs.Str.Parse.{AllDigits, ParsesSigned}
use Rattle.std.proofs.Math.ListN.{get_or-append}
use Rattle.std.proofs.Math.Seq.{drop-append-add, get_or-append_seam, take-append_seam, take_all}
use Rattle.std.proofs.lemmas.Fmt.{IsAscii-signed, decimal_is_IsNumeral, parse-signed_decimal}
use Rattle.std.proofs.lemmas.List.{append-nil, get_or_default, map_push}
use Rattle.std.proofs.lemmas.List.Elements.{All-cons, All-filter, All-head, All-nil, All-tail, filter-append, filter_passes}
use Rattle.std.proofs.lemmas.List.Folds.{list_any_at}
use Rattle.std.proofs.lemmas.List.Splits.{slice_split_at}
use Rattle.std.proofs.lemmas.List.Sums.{position_or_len_is}
use Rattle.std.proofs.lemmas.Map.Views.{Contains-from_any}
use Rattle.std.proofs.lemmas.Option.{none-some, same_Some}
use Rattle.std.proofs.lemmas.Str.{IsUtf8-from_ascii}
use Rattle.std.proofs.lemmas.Str.Parse.{digit_from_value}
use Rattle.jiff.specs.declared.timestamp.Timestamp.{Timestamp}
use Rattle.jiff_core.specs.Timestamp.{IsTimestampNanos, nanos_of_seconds}
use Rattle.jiff_core.proofs.SignedLemmas.{int_div_euclid-parts, signed_arith}
use Rattle.cron_tab_running.specs.Noted.{IsEntry}

abbrev pub is_feed : ℕ → Bool
is_feed b = eqb b 10

abbrev pub has_tab : List ℕ → Bool
has_tab e = list_any (λ b. eqb b 9) e

abbrev pub lines_of : List (List ℕ) → List ℕ
lines_of es = flat_map (λ e. e ++ 10 ∷ []) es

-- ---- the instant

pub in_range : (t : ℤ) → IsTimestampNanos t → IsTimestampNanos (nanos_of_seconds (int_div_euclid t (pos 1_000_000_000)))
in_range t h = let p = int_div_euclid-parts t 1_000_000_000 (omega arith) in omega (arith, signed_arith)

is_small : (s : ℤ) → IsTimestampNanos (nanos_of_seconds s) → mag s < 2 ^ 63
is_small (pos n) h = omega (arith, signed_arith)
is_small (negsuc n) h = omega (arith, signed_arith)

fits : (s : ℤ) → IsTimestampNanos (nanos_of_seconds s) → FitsSigned w64 s
fits s h = omega (arith, signed_arith)

is_text : (text : List ℕ) (s : ℤ) → IsTimestampNanos (nanos_of_seconds s) → text ≡ signed_decimal s → IsUtf8 text
is_text text s h is = subst IsUtf8 (sym is) (IsUtf8-from_ascii (signed_decimal s) (IsAscii-signed s (is_small s h)))

pub no_text : {T E : Type 0} (P : T → Type 0) (Q : E → Type 0) (text : List ℕ) (s : ℤ) (r : Result T E) → IsTimestampNanos (nanos_of_seconds s) → text ≡ signed_decimal s
    → MatchResult r P (λ e. (IsUtf8 text → ⊥) × Q e) → result_ok r ≡ None → ⊥
no_text P Q text s (Ok x) h is cases none = none-some x (sym none)
no_text P Q text s (Err e) h is cases none = cases.0 (is_text text s h is)

pub same_text : {E : Type 0} (U : Type 0) (Q : E → Type 0) (text : List ℕ) (r : Result (Bor (List ℕ)) E) (x : Bor (List ℕ)) → MatchResult r (λ t. (t.now ≡ text) × U) Q → result_ok r ≡ Some x → x.now ≡ text
same_text U Q text (Ok t) x cases is = ap (λ y. y.now) (sym (same_Some t x is)) ∙ cases.0
same_text U Q text (Err e) x cases is = absurd (none-some x is)

pub is_read : {E : Type 0} (text : List ℕ) (s : ℤ) (r : Result ℤ E) → IsTimestampNanos (nanos_of_seconds s) → text ≡ signed_decimal s → ParsesSigned w64 10 text r → result_ok r ≡ Some s
is_read text s r h is parses = ap result_ok (parse-signed_decimal w64 s text r (fits s h) (is_small s h) is parses)

pub comes_back : (second s : ℤ) → IsTimestampNanos (nanos_of_seconds s) → second ≡ s → to_z w64 (of_z w64 second) ≡ s
comes_back second s h is = ap (λ n. to_z w64 (of_z w64 n)) is ∙ to_z-of_z (fits s h)

pub is_made : {E : Type 0} (n : ℤ) (r : Result Timestamp E) (o : Option Timestamp) → IsTimestampNanos n → (IsOk r ↔ IsTimestampNanos n) → IfOk r (λ t. t.nanosecond ≡ n)
    → o ≡ result_ok r → IsSomeAnd o (λ t. t.nanosecond ≡ n)
is_made n (Ok t) o h can value is = subst (λ o. IsSomeAnd o (λ t. t.nanosecond ≡ n)) (sym is) value
is_made n (Err e) o h can value is = absurd (true≢false (sym (can.1 h)))

digits_lack : (ds : List ℕ) → AllDigits 10 ds → All (λ b. is_feed b ≡ false) ds
digits_lack [] h = All-nil (λ b. is_feed b ≡ false)
digits_lack (c ∷ ds) h = All-cons (λ b. is_feed b ≡ false) c ds (ne_eqb c 10 (λ is. omega (arith, digit_from_value c h.0))) (digits_lack ds h.1)

second_lacks : (s : ℤ) → mag s < 2 ^ 63 → All (λ b. is_feed b ≡ false) (signed_decimal s)
second_lacks (pos n) small = digits_lack (decimal n) (decimal_is_IsNumeral n (omega arith)).0.1
second_lacks (negsuc n) small = All-cons (λ b. is_feed b ≡ false) 45 (decimal (suc n)) refl (digits_lack (decimal (suc n)) (decimal_is_IsNumeral (suc n) (omega arith)).0.1)

ends_at : (front rest : List ℕ) → All (λ b. is_feed b ≡ false) front → position is_feed (front ++ 10 ∷ rest) ≡ Some (length front)
ends_at front rest none =
    let all = front ++ 10 ∷ rest in
    let within : length front < length all = omega (arith, length-append front (10 ∷ rest)) in
    let at : position_or_len is_feed all ≡ length front =
    position_or_len_is is_feed all (length front) 10 (omega arith) (λ k h. ap is_feed (get_or-append front (10 ∷ rest) 10 k h) ∙ none k 10 h) (λ h. ap is_feed (get_or-append_seam front 10 rest 10)) in
    ap (λ k. cond (nat_lt k (length all)) (Some k) None) at ∙ ap (λ b. cond b (Some (length front)) None) (lt-ltb (length front) (length all) within)

pub ends : (bytes rest : List ℕ) (s : ℤ) → IsTimestampNanos (nanos_of_seconds s) → bytes ≡ signed_decimal s ++ 10 ∷ rest → position is_feed bytes ≡ Some (length (signed_decimal s))
ends bytes rest s h is = ap (position is_feed) is ∙ ends_at (signed_decimal s) rest (second_lacks s (is_small s h))

pub cut : (bytes rest : List ℕ) (s : ℤ) (end : ℕ) → IsTimestampNanos (nanos_of_seconds s) → bytes ≡ signed_decimal s ++ 10 ∷ rest → position is_feed bytes ≡ Some end
    → (take end bytes ≡ signed_decimal s) × (take (length bytes - (end + 1)) (drop (end + 1) bytes) ≡ rest)
cut bytes rest s end h is at =
    let size = same_Some end (length (signed_decimal s)) (sym at ∙ ends bytes rest s h is) in
    let back : drop (end + 1) bytes ≡ rest = (λ i. drop (size i + 1) (is i)) ∙ drop-append-add (signed_decimal s) (10 ∷ rest) 1 in (
      (λ i. take (size i) (is i)) ∙ take-append_seam (signed_decimal s) (10 ∷ rest),
      take_all _ (drop (end + 1) bytes) (omega (arith, length-drop (end + 1) bytes)) ∙ back,
    )

pub front_of : (all front end : List ℕ) → all ≡ front ++ end → take (length all - length end) all ≡ front
front_of all front end is =
    let size : length all - length end ≡ length front = omega (arith, ap length is, length-append front end) in
    (λ i. take (size i) (is i)) ∙ take-append_seam front end

-- ---- the entries

lacks_feed : (e : List ℕ) → ¬ Contains e 10 → All (λ b. is_feed b ≡ false) e
lacks_feed e none k d within = ne_eqb (get_or e k d) 10 (λ is. none (k, within, get_or_default e k 10 d within ∙ is))

shows_tab : (e : List ℕ) → Contains e 9 → has_tab e ≡ true
shows_tab e h = list_any_at (λ b. eqb b 9) e h.0 9 h.1 (eq-eqb _ 9 h.2)

-- the parts of lines: the entries, and nothing behind the last feed
parts : (es : List (List ℕ)) → All IsEntry es → slice_split is_feed (lines_of es) ≡ es ++ [] ∷ []
parts [] h = refl
parts (e ∷ es) h =
    ap (slice_split is_feed) (append_assoc e (10 ∷ []) (lines_of es))
    ∙ slice_split_at is_feed e 10 (lines_of es) (lacks_feed e (All-head IsEntry e es h).1) refl
    ∙ ap (λ l. e ∷ l) (parts es (All-tail IsEntry e es h))

-- the parts of a text that have a tab
abbrev pub entries_of : List ℕ → List (List ℕ)
entries_of bytes = filter has_tab (slice_split is_feed bytes)

kept : (es : List (List ℕ)) → All IsEntry es → filter has_tab (es ++ [] ∷ []) ≡ es
kept [] h = refl
kept (e ∷ es) h =
    ap (λ b. cond b (e ∷ filter has_tab (es ++ [] ∷ [])) (filter has_tab (es ++ [] ∷ []))) (shows_tab e (All-head IsEntry e es h).0)
    ∙ ap (λ l. e ∷ l) (kept es (All-tail IsEntry e es h))

pub reads_back : (bytes : List ℕ) (es : List (List ℕ)) → All IsEntry es → bytes ≡ lines_of es → entries_of bytes ≡ es
reads_back bytes es h is = ap entries_of is ∙ ap (filter has_tab) (parts es h) ∙ kept es h

-- a part with no tab is the one behind the last feed
last_of : (es : List (List ℕ)) → All IsEntry es → (x : List ℕ) (i : ℕ) → i < length (es ++ [] ∷ []) → x ≡ get_or (es ++ [] ∷ []) i x → has_tab x ≡ false → x ≡ []
last_of [] h x zero within is none = is
last_of [] h x (suc i) within is none = absurd (omega arith)
last_of (e ∷ es) h x zero within is none = absurd (true≢false (sym (ap has_tab is ∙ shows_tab e (All-head IsEntry e es h).0) ∙ none))
last_of (e ∷ es) h x (suc i) within is none = last_of es (All-tail IsEntry e es h) x i (omega arith) is none

pub is_last : (bytes : List ℕ) (es : List (List ℕ)) → All IsEntry es → bytes ≡ lines_of es → (x : List ℕ) (i : ℕ)
    → (i < length (slice_split is_feed bytes)) × (x ≡ get_or (slice_split is_feed bytes) i x) → has_tab x ≡ false → x ≡ []
is_last bytes es h is x i at none =
    let there = subst (λ ps. (i < length ps) × (x ≡ get_or ps i x)) (ap (slice_split is_feed) is ∙ parts es h) at in
    last_of es h x i there.0 there.1 none

abbrev pub seen : List (Bor (List ℕ)) → List (List ℕ)
seen parts = map (λ part. part.now) parts

one_more : (ps : List (Bor (List ℕ))) (p : Bor (List ℕ)) → filter has_tab (seen (ps ++ p ∷ [])) ≡ filter has_tab (seen ps) ++ cond (has_tab p.now) (p.now ∷ []) []
one_more ps p = ap (filter has_tab) (map_push (λ part. part.now) ps p) ∙ filter-append has_tab (seen ps) (p.now ∷ [])

pub taken : (read : List (List ℕ)) (ps : List (Bor (List ℕ))) (p : Bor (List ℕ)) → has_tab p.now ≡ true → read ≡ filter has_tab (seen ps) → read ++ p.now ∷ [] ≡ filter has_tab (seen (ps ++ p ∷ []))
taken read ps p tab h = ap (λ l. l ++ p.now ∷ []) h ∙ sym (one_more ps p ∙ ap (λ b. filter has_tab (seen ps) ++ cond b (p.now ∷ []) []) tab)

pub passed : (read : List (List ℕ)) (ps : List (Bor (List ℕ))) (p : Bor (List ℕ)) → has_tab p.now ≡ false → read ≡ filter has_tab (seen ps) → read ≡ filter has_tab (seen (ps ++ p ∷ []))
passed read ps p none h = h ∙ sym (one_more ps p ∙ ap (λ b. filter has_tab (seen ps) ++ cond b (p.now ∷ []) []) none ∙ append-nil (filter has_tab (seen ps)))

-- each part lacks a line feed
lacking-onto : (b : ℕ) (ps : List (List ℕ)) → is_feed b ≡ false → All (λ part. list_any is_feed part ≡ false) ps → All (λ part. list_any is_feed part ≡ false) (onto_first b ps)
lacking-onto b [] none h = All-cons (λ part. list_any is_feed part ≡ false) (b ∷ []) [] (ap (λ t. t || false) none) (All-nil (λ part. list_any is_feed part ≡ false))
lacking-onto b (p ∷ ps) none h =
    All-cons (λ part. list_any is_feed part ≡ false) (b ∷ p) ps (ap (λ t. t || list_any is_feed p) none ∙ All-head (λ part. list_any is_feed part ≡ false) p ps h) (All-tail (λ part. list_any is_feed part ≡ false) p ps h)

lacking-by : (b : ℕ) (ps : List (List ℕ)) (t : Bool) → is_feed b ≡ t → All (λ part. list_any is_feed part ≡ false) ps → All (λ part. list_any is_feed part ≡ false) (cond t ([] ∷ ps) (onto_first b ps))
lacking-by b ps true is h = All-cons (λ part. list_any is_feed part ≡ false) [] ps refl h
lacking-by b ps false is h = lacking-onto b ps is h

lacking : (bytes : List ℕ) → All (λ part. list_any is_feed part ≡ false) (slice_split is_feed bytes)
lacking [] = All-cons (λ part. list_any is_feed part ≡ false) [] [] refl (All-nil (λ part. list_any is_feed part ≡ false))
lacking (b ∷ bytes) = lacking-by b (slice_split is_feed bytes) (is_feed b) refl (lacking bytes)

has_none : (e : List ℕ) → list_any is_feed e ≡ false → ¬ Contains e 10
has_none e none h = true≢false (sym (list_any_at is_feed e h.0 10 h.1 (eq-eqb _ 10 h.2)) ∙ none)

pub are_entries : (bytes : List ℕ) → All IsEntry (entries_of bytes)
are_entries bytes k d within =
    let tab = filter_passes has_tab (slice_split is_feed bytes) k d within in
    let feed = All-filter has_tab (λ part. list_any is_feed part ≡ false) (slice_split is_feed bytes) (lacking bytes) k d within in
    (Contains-from_any {eq = λ x y. eqb y x} (λ x y is. sym (eqb-true y x is)) 9 (get_or (entries_of bytes) k d) tab, has_none (get_or (entries_of bytes) k d) feed)
