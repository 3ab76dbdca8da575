-- The lines of a span are texts, with no carriage return.
use Rattle.std.proofs.Common.{◌≡◌, ℕ, zero, suc, ◌+◌, ◌/◌, ◌%◌, ◌<◌, ◌≤◌, ◌^◌, ℤ, pos, negsuc, nat_lt, Bool, true, not, ◌==◌, ◌&&◌, List, [], ◌∷◌, ◌++◌, codes, decimal, IsUtf8, refl, sym, ◌∙◌, subst, take, arith, unsigned_abs}
use Rattle.std.proofs.lemmas.Bool.{and_from, and_parts, lt-ltb, ltb-true, ne_eqb, not-true, not_from_false}
use Rattle.std.proofs.lemmas.Fmt.{decimal_is_IsNumeral}
use Rattle.std.proofs.lemmas.List.Folds.{list_all-append}
use Rattle.std.proofs.lemmas.Str.{IsUtf8-nil}
use Rattle.std.proofs.lemmas.Str.Parse.{digit_from_value}
use Rattle.std.specs.Fmt.{signed_decimal}
use Rattle.std.specs.List.{list_all}
use Rattle.std.specs.Prelude.{slice_index}
use Rattle.std.specs.Str.Parse.{AllDigits}
use lib.Signed.{mag}
use Rattle.hex.specs.Hex.{encode_with, lower_digits}
use Rattle.jiff_core.specs.declared.civil.date.Date.{Date}
use Rattle.jiff_core.specs.declared.civil.datetime.DateTime.{DateTime}
use Rattle.jiff_core.specs.declared.civil.time.Time.{Time}
use Rattle.sha2.specs.Sha256.{sha256}
use Rattle.cron_moments.specs.MomentText.{four_digits, two_digits}
use Rattle.cron_ics.proofs.SpanLaws.{parted, uid-parted}
use Rattle.cron_ics.proofs.SummaryLaws.{are_lines, ascii_then}
use Rattle.cron_ics.proofs.UidLaws.{small}
use Rattle.cron_ics.specs.Domains.{is_domain_byte}
use Rattle.cron_ics.specs.Events.{digest_text}
use Rattle.cron_ics.specs.Folding.{HasNoReturn}
use Rattle.cron_ics.specs.Spans.{SpansAreLines, span_uid}
use Rattle.cron_ics.specs.Stamps.{date_digits, stamp_text, time_digits}

-- a byte of ASCII that is no carriage return
abbrev is_plain : ℕ → Bool
is_plain b = nat_lt b 128 && not (b == 13)

abbrev Plain : List ℕ → Type 0
Plain xs = list_all is_plain xs ≡ true

both : (xs ys : List ℕ) → Plain xs → Plain ys → Plain (xs ++ ys)
both xs ys p q = list_all-append is_plain xs ys ∙ and_from _ _ p q

no_return : (xs : List ℕ) → Plain xs → HasNoReturn xs
no_return [] p = tt
no_return (b ∷ bs) p =
    let parts = and_parts (is_plain b) (list_all is_plain bs) p in
    (not-true (b == 13) (and_parts (nat_lt b 128) (not (b == 13)) parts.0).1, no_return bs parts.1)

text : (xs : List ℕ) → Plain xs → IsUtf8 xs
text [] p = IsUtf8-nil
text (b ∷ bs) p =
    let parts = and_parts (is_plain b) (list_all is_plain bs) p in
    ascii_then b bs (ltb-true b 128 (and_parts (nat_lt b 128) (not (b == 13)) parts.0).0) (text bs parts.1)

-- ---- bytes of each kind

within : (b : ℕ) → 14 ≤ b → b < 128 → is_plain b ≡ true
within b low high = and_from _ _ (lt-ltb b 128 high) (not_from_false _ (ne_eqb b 13 (λ e. omega (arith, e, low))))

digits : (ds : List ℕ) → AllDigits 10 ds → Plain ds
digits [] d = refl
digits (b ∷ ds) d =
    and_from _ _ (within b (omega (arith, digit_from_value b d.0)) (omega (arith, digit_from_value b d.0))) (digits ds d.1)

number : (z : ℤ) → mag z < 2 ^ 63 → Plain (signed_decimal z)
number (pos n) h = digits (decimal n) (decimal_is_IsNumeral n (omega (arith, h))).0.1
number (negsuc n) h = digits (decimal (suc n)) (decimal_is_IsNumeral (suc n) (omega (arith, h))).0.1

at : (xs : List ℕ) (k : ℕ) → Plain xs → is_plain (slice_index xs k) ≡ true
at [] k p = refl
at (x ∷ xs) zero p = (and_parts (is_plain x) (list_all is_plain xs) p).0
at (x ∷ xs) (suc k) p = at xs k (and_parts (is_plain x) (list_all is_plain xs) p).1

plain_hex : Plain lower_digits
plain_hex = refl

encoded : (bytes : List ℕ) → Plain (encode_with lower_digits bytes)
unfolding encode_with
encoded [] = refl
encoded (b ∷ bs) = and_from _ _ (at lower_digits (b / 16) plain_hex) (and_from _ _ (at lower_digits (b % 16) plain_hex) (encoded bs))

domain_byte : (b : ℕ) → is_domain_byte b ≡ true → is_plain b ≡ true
domain_byte b h = grind arith

domain_bytes : (xs : List ℕ) → list_all is_domain_byte xs ≡ true → Plain xs
domain_bytes [] h = refl
domain_bytes (b ∷ bs) h =
    let parts = and_parts (is_domain_byte b) (list_all is_domain_byte bs) h in
    and_from _ _ (domain_byte b parts.0) (domain_bytes bs parts.1)

two : (n : ℕ) → Plain (two_digits n)
two n =
    and_from (is_plain (48 + n / 10 % 10)) _ (within (48 + n / 10 % 10) (omega arith) (omega arith))
    (and_from (is_plain (48 + n % 10)) _ (within (48 + n % 10) (omega arith) (omega arith)) refl)

date : (d : Date) → Plain (date_digits d)
unfolding date_digits
date d =
    let year = unsigned_abs d.year in
    both (four_digits year) (two_digits d.month ++ two_digits d.day) (both (two_digits (year / 100)) (two_digits year) (two (year / 100)) (two year))
    (both (two_digits d.month) (two_digits d.day) (two d.month) (two d.day))

time : (t : Time) → Plain (time_digits t)
unfolding time_digits
time t =
    both (two_digits t.hour) (two_digits t.minute ++ two_digits t.second) (two t.hour)
    (both (two_digits t.minute) (two_digits t.second) (two t.minute) (two t.second))

stamped : (dt : DateTime) → Plain (stamp_text dt)
stamped dt =
    let day = both (date_digits dt.date) (codes "T") (date dt.date) refl in
    let second = both (date_digits dt.date ++ codes "T") (time_digits dt.time) day (time dt.time) in
    both (date_digits dt.date ++ codes "T" ++ time_digits dt.time) (codes "Z") second refl

named : (name : List ℕ) (dt : DateTime) → Plain name → Plain (name ++ stamp_text dt)
named name dt p = both name (stamp_text dt) p (stamped dt)

identified : (digest domain : List ℕ) (from until : ℤ) → Plain digest → Plain domain → mag from < 2 ^ 63 → mag until < 2 ^ 63
    → Plain (span_uid digest from until domain)
unfolding parted
identified digest domain from until d p few less =
    let ends = both (signed_decimal until) (64 ∷ domain) (number until less) p in
    let starts = both (signed_decimal from) (45 ∷ (signed_decimal until ++ 64 ∷ domain)) (number from few) ends in
    subst Plain (sym (uid-parted digest from until domain)) (both digest (45 ∷ (signed_decimal from ++ 45 ∷ (signed_decimal until ++ 64 ∷ domain))) d starts)

pub are_span_lines : SpansAreLines
are_span_lines words domain summary from until stamp start end ok few less =
    let uid = identified (digest_text words) domain from until (encoded (take 16 (sha256 words))) (domain_bytes domain (and_parts _ _ ok).1)
    (small from few) (small until less) in
    let title = are_lines summary in
    let written = named (codes "DTSTAMP:") stamp refl in
    let starts = named (codes "DTSTART:") start refl in
    let ends = named (codes "DTEND:") end refl in
    let begin = codes "BEGIN:VEVENT" in
    let free = codes "TRANSP:TRANSPARENT" in
    let finish = codes "END:VEVENT" in
    let id = span_uid (digest_text words) from until domain in
    let at_stamp = codes "DTSTAMP:" ++ stamp_text stamp in
    let at_start = codes "DTSTART:" ++ stamp_text start in
    let at_end = codes "DTEND:" ++ stamp_text end in (
      (
        (refl, no_return begin refl),
        (
          (refl, no_return id uid),
          (
            (refl, no_return at_stamp written),
            (
              (refl, no_return at_start starts),
              ((refl, no_return at_end ends), ((refl, title.1), ((refl, no_return free refl), ((refl, no_return finish refl), tt)))),
            ),
          ),
        ),
      ),
      (text begin refl, (text id uid, (text at_stamp written, (text at_start starts, (text at_end ends, (title.0, (text free refl, (text finish refl, tt)))))))),
    )
