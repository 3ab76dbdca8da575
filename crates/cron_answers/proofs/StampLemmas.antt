-- Stamps: their bytes, and what stands in their middle.
use Rattle.std.proofs.Common.{◌≡◌, ℕ, zero, suc, ◌+◌, ◌-◌, ◌/◌, ◌%◌, ◌==◌, ◌<◌, ◌≤◌, ℤ, pos, negsuc, Bool, true, false, cond, List, [], ◌∷◌, ◌++◌, length, take, get_or, None, Result, Ok, Err, refl, sym, ap, ◌∙◌, arith, rules, append_assoc, length-append}
use Rattle.std.specs.Prelude.{codes, slice_range, MatchResult}
use Rattle.std.specs.Result.{result_ok}
use Rattle.std.proofs.Math.ListN.{get_or-append}
use Rattle.std.proofs.Math.Seq.{get_or-append_seam, take-append_seam}
use Rattle.std.specs.Str.{IsUtf8}
use Rattle.std.proofs.lemmas.Str.{IsUtf8-from_ascii}
use Rattle.cron_moments.specs.Civil.{civil}
use Rattle.jiff_core.specs.declared.civil.date.Date.{Date}
use Rattle.jiff_core.specs.declared.civil.time.Time.{Time}
use Rattle.cron_moments.specs.MomentText.{date_text, moment_text, offset_text, seconds_text, sign_text, size_of, time_text, two_digits}
use Rattle.cron_moments.specs.Readings.{Reading}
use Rattle.cron_dues.specs.Clock.Due.{Due}
use Rattle.cron_dues.specs.DueText.{due_text, nominal_text, shown}
use Rattle.cron_answers.specs.Stamps.{FrontsAreNoStamps, stamp_text}

-- ---- a fire's text has printable ASCII alone

abbrev IsPlainByte : ℕ → Type 0
IsPlainByte b = (32 ≤ b) × (b < 128)

abbrev ArePlain : List ℕ → Type 0
ArePlain [] = Unit {0}
ArePlain (b ∷ bs) = IsPlainByte b × ArePlain bs

record Plain (text : List ℕ) : Type 0 where
  all : ArePlain text

are_plain-append : (xs ys : List ℕ) → ArePlain xs → ArePlain ys → ArePlain (xs ++ ys)
are_plain-append [] ys h k = k
are_plain-append (x ∷ xs) ys h k = (h.0, are_plain-append xs ys h.1 k)

joined : {xs ys : List ℕ} → Plain xs → Plain ys → Plain (xs ++ ys)
joined {xs} {ys} p q = record { all = are_plain-append xs ys p.all q.all }

either : {xs ys : List ℕ} (b : Bool) → Plain xs → Plain ys → Plain (cond b xs ys)
either true p q = p
either false p q = q

digit : (n : ℕ) → IsPlainByte (48 + n % 10)
digit n = (omega arith, omega arith)

two-plain : (n : ℕ) → Plain (two_digits n)
two-plain n = record { all = (digit (n / 10), (digit n, tt)) }

one : (b : ℕ) → 32 ≤ b → b < 128 → Plain (b ∷ [])
one b low high = record { all = ((low, high), tt) }

dash-plain : Plain (codes "-")
dash-plain = one 45 (omega arith) (omega arith)

colon-plain : Plain (codes ":")
colon-plain = one 58 (omega arith) (omega arith)

space-plain : Plain (codes " ")
space-plain = one 32 (omega arith) (omega arith)

nil-plain : Plain []
nil-plain = record { all = tt }

date-plain : (d : Date) → Plain (date_text d)
date-plain d =
    joined (joined (two-plain (size_of d.year / 100)) (two-plain (size_of d.year)))
    (joined dash-plain (joined (two-plain d.month) (joined dash-plain (two-plain d.day))))

time-plain : (t : Time) → Plain (time_text t)
time-plain t = joined (two-plain t.hour) (joined colon-plain (joined (two-plain t.minute) (joined colon-plain (two-plain t.second))))

sign-plain : (o : ℤ) → Plain (sign_text o)
sign-plain (pos n) = one 43 (omega arith) (omega arith)
sign-plain (negsuc n) = one 45 (omega arith) (omega arith)

seconds-plain : (n : ℕ) → Plain (seconds_text n)
seconds-plain n = either (n == 0) nil-plain (joined colon-plain (two-plain n))

offset-plain : (o : ℤ) → Plain (offset_text o)
offset-plain o =
    joined (sign-plain o)
    (joined (two-plain (size_of o / 3600))
    (joined colon-plain (joined (two-plain (size_of o / 60 % 60)) (seconds-plain (size_of o % 60)))))

moment-plain : (r : Reading) → Plain (moment_text r)
unfolding moment_text
moment-plain r =
    joined (date-plain (civil r.second).date)
    (joined space-plain (joined (time-plain (civil r.second).time) (joined space-plain (offset-plain r.offset.seconds))))

nominal-plain : (d : Due) → Plain (nominal_text d)
nominal-plain d =
    either (d.second / 86_400 == (d.second + d.past) / 86_400) (time-plain (civil d.second).time)
    (joined (date-plain (civil d.second).date) (joined space-plain (time-plain (civil d.second).time)))

for-plain : Plain (codes " for ")
for-plain = record { all = ((omega arith, omega arith), ((omega arith, omega arith), ((omega arith, omega arith), ((omega arith, omega arith), ((omega arith, omega arith), tt))))) }

due-plain : (d : Due) → Plain (due_text d)
unfolding due_text
due-plain d = joined (moment-plain (shown d)) (either (d.past == 0) nil-plain (joined for-plain (nominal-plain d)))

-- ---- so it is text

ascii : (xs : List ℕ) → ArePlain xs → (i : ℕ) → get_or xs i 0 < 128
ascii [] h i = omega arith
ascii (x ∷ xs) h zero = h.0.1
ascii (x ∷ xs) h (suc i) = ascii xs h.1 i

pub due_text-utf8 : (d : Due) → IsUtf8 (due_text d)
due_text-utf8 d = IsUtf8-from_ascii (due_text d) (ascii (due_text d) (due-plain d).all)

-- it stands between the head and the end
pub middle : (d : Due) (bytes : List ℕ) → stamp_text d ≡ bytes → slice_range bytes 18 (length bytes - 2) ≡ due_text d
middle d bytes is =
    let size : length (stamp_text d) - 2 - 18 ≡ length (due_text d) = omega (arith, length-append (due_text d) (codes ";\n")) in
    rw (← is) (ap (λ (n : ℕ). take n (due_text d ++ codes ";\n")) size ∙ take-append_seam (due_text d) (codes ";\n"))

-- a text that isn't text
pub no_text : {T E : Type 0} (U : Type 0) (P : T → Type 0) (Q : E → Type 0) (r : Result T E) → MatchResult r P (λ e. (U → ⊥) × Q e) → result_ok r ≡ None → U → ⊥
no_text U P Q (Ok x) h none u = absurd (cc)
no_text U P Q (Err e) h none u = h.0 u

-- ---- a stamp's only line feed is its last byte

no_feed : (xs : List ℕ) → ArePlain xs → (i : ℕ) → i < length xs → 32 ≤ get_or xs i 0
no_feed [] h i less = absurd (omega arith)
no_feed (x ∷ xs) h zero less = h.0.0
no_feed (x ∷ xs) h (suc i) less = no_feed xs h.1 i (omega arith)

-- what stands before it
body : Due → List ℕ
body d = codes "crontool stamp 1: " ++ (due_text d ++ codes ";")

whole : (d : Due) → stamp_text d ≡ body d ++ 10 ∷ []
unfolding body
whole d = ap (λ (l : List ℕ). codes "crontool stamp 1: " ++ l) (sym (append_assoc (due_text d) (codes ";") (10 ∷ [])))

body-plain : (d : Due) → Plain (body d)
unfolding body
body-plain d = joined head (joined (due-plain d) (one 59 (omega arith) (omega arith)))
  where
    head : Plain (codes "crontool stamp 1: ")
    head = record { all = search rules }

some_left : (rest : List ℕ) → (rest ≡ [] → ⊥) → 0 < length rest
some_left [] some = absurd (some refl)
some_left (x ∷ xs) some = omega arith

pub no_fronts : FrontsAreNoStamps
no_fronts d e front rest cut some is =
    let n = length (body e) in
    let ends : front ≡ body e ++ 10 ∷ [] = sym is.1 ∙ whole e in
    let goes_on : body d ++ 10 ∷ [] ≡ front ++ rest = sym (whole d) ∙ cut in
    let last : get_or front n 0 ≡ 10 = ap (λ (l : List ℕ). get_or l n 0) ends ∙ get_or-append_seam (body e) 10 [] 0 in
    let size : length front ≡ n + 1 = ap length ends ∙ length-append (body e) (10 ∷ []) in
    let sizes : length (body d) + 1 ≡ length front + length rest =
    sym (length-append (body d) (10 ∷ [])) ∙ (ap length goes_on ∙ length-append front rest) in
    let left = some_left rest some in
    let in_front : n < length front = omega arith in
    let within : n < length (body d) = omega arith in
    let same : get_or (body d) n 0 ≡ get_or front n 0 =
    sym (get_or-append (body d) (10 ∷ []) 0 n within) ∙ (ap (λ (l : List ℕ). get_or l n 0) goes_on ∙ get_or-append front rest 0 n in_front) in
    let high = no_feed (body d) (body-plain d).all n within in absurd (omega arith)
