-- Sentences are told apart.
use Rattle.std.proofs.Common.{◌≡◌, ℕ, Bool, true, false, List, [], ◌∷◌, ◌++◌, Option, Some, None, codes, refl, sym, ap, ◌∙◌, append-nil, append_assoc, arith}
use Rattle.std.proofs.lemmas.List.{append_cancel_left}
use Rattle.std.specs.List.{AllByRecursion}
use Rattle.cron_units.specs.Sets.{Sets}
use Rattle.cron_quartz.specs.Days.{schedules_of}
use Rattle.cron_words.specs.Shapes.{IsShape, base, days_of, shape_from}
use Rattle.cron_words.specs.Sentence.{FormsAreMeant, InUnits, SentencesDiffer, shape_text, shaped_text, text_from}
use Rattle.cron_words.specs.declared.shapes.Shape.{Shape}
use Rattle.cron_words.specs.Schedules.{dates_text, months_text, others_text, schedule_text, times_text, union_text, years_text}
use Rattle.cron_words.proofs.HoursApart.{is_n, times_apart, times_n}
use Rattle.cron_words.proofs.NthApart.{dates_apart, dates_behind}
use Rattle.cron_words.proofs.BehindTimes.{IsBehindTimes}
use Rattle.cron_words.proofs.DatesApart.{IsTail}
use Rattle.cron_words.proofs.ShapeLemmas.{shaped_list}
use Rattle.cron_words.proofs.ShapesApart.{IsFound, base_in, found, shape_apart, shape_behind, shape_dates}
use Rattle.cron_words.proofs.ListsApart.{stops, unlike_at}
use Rattle.cron_words.proofs.PhrasesApart.{months_apart, months_tail, years_apart, years_tail}
use Rattle.cron_words.proofs.UnitsApart.{SameTimes}

-- ---- schedules

behind : Sets → List ℕ → List ℕ
behind s r = dates_text s ++ (months_text s.months ++ (years_text s.years ++ r))

schedule_behind : (capital : Bool) (s : Sets) (r : List ℕ) → schedule_text capital s ++ r ≡ times_text capital s ++ behind s r
unfolding schedule_text behind
schedule_behind capital s r =
    let d = dates_text s in
    let m = months_text s.months in
    let y = years_text s.years in
    append_assoc (times_text capital s) (d ++ (m ++ y)) r
    ∙ ap (λ (x : List ℕ). times_text capital s ++ x) (append_assoc d (m ++ y) r ∙ ap (λ (x : List ℕ). d ++ x) (append_assoc m y r))

same_sets : (s t : Sets) → SameTimes s t → s.days_of_week ≡ t.days_of_week → s.days_of_month ≡ t.days_of_month → s.months ≡ t.months → s.years ≡ t.years → s ≡ t
same_sets s t h w d m y = rw (h.0, h.1, h.2, w, d, m, y) refl

schedule_apart : (capital : Bool) (s t : Sets) (r q : List ℕ) → InUnits s → InUnits t → IsTail 4 r → IsTail 4 q
    → schedule_text capital s ++ r ≡ schedule_text capital t ++ q → (s ≡ t) × (r ≡ q)
unfolding behind
schedule_apart capital s t r q a b v w e =
    let sy = years_tail s.years r a.years v in
    let ty = years_tail t.years q b.years w in
    let sm = months_tail s.months (years_text s.years ++ r) a.months sy in
    let tm = months_tail t.months (years_text t.years ++ q) b.months ty in
    let times = times_apart capital s t (behind s r) (behind t q) a b (dates_behind s _ a sm) (dates_behind t _ b tm)
    (sym (schedule_behind capital s r) ∙ (e ∙ schedule_behind capital t q)) in
    let daily = dates_apart s t _ _ a b sm tm times.1 in
    let monthly = months_apart s.months t.months _ _ a.months b.months sy ty daily.1 in
    let yearly = years_apart s.years t.years r q a.years b.years v w monthly.1 in
    (same_sets s t times.0 daily.0.0 daily.0.1 monthly.0 yearly.0, yearly.1)

-- ---- unions

end_tail : IsTail 4 []
unfolding stops
end_tail = record { later = omega arith; stop = λ v. refl; space = refl }

semicolon_tail : (x : List ℕ) → IsTail 4 (59 ∷ x)
unfolding stops
semicolon_tail x = record { later = omega arith; stop = λ v. refl; space = refl }

others_tail : (ss : List Sets) → IsTail 4 (others_text ss)
others_tail [] = end_tail
others_tail (s ∷ ss) = semicolon_tail _

others_apart : (ss ts : List Sets) → AllByRecursion InUnits ss → AllByRecursion InUnits ts → others_text ss ≡ others_text ts → ss ≡ ts
others_apart [] [] a b e = refl
others_apart [] (t ∷ ts) a b e = absurd (cc)
others_apart (s ∷ ss) [] a b e = absurd (cc)
others_apart (s ∷ ss) (t ∷ ts) a b e =
    let c = schedule_apart false s t (others_text ss) (others_text ts) a.0 b.0 (others_tail ss) (others_tail ts) (append_cancel_left (codes "; or ") _ _ e) in
    let d = others_apart ss ts a.1 b.1 c.1 in
    rw (c.0, d) refl

-- a schedule isn't `Never`
never_apart : (s : Sets) (r : List ℕ) → schedule_text true s ++ r ≡ codes "Never" → ⊥
never_apart s r e = unlike_at is_n 0 _ _ (times_n s (behind s r)) refl (sym (schedule_behind true s r) ∙ e)

unions_apart : (ss ts : List Sets) → AllByRecursion InUnits ss → AllByRecursion InUnits ts → union_text ss ≡ union_text ts → ss ≡ ts
unions_apart [] [] a b e = refl
unions_apart [] (t ∷ ts) a b e = absurd (never_apart t (others_text ts) (sym e))
unions_apart (s ∷ ss) [] a b e = absurd (never_apart s (others_text ss) e)
unions_apart (s ∷ ss) (t ∷ ts) a b e =
    let c = schedule_apart true s t (others_text ss) (others_text ts) a.0 b.0 (others_tail ss) (others_tail ts) e in
    let d = others_apart ss ts a.1 b.1 c.1 in
    rw (c.0, d) refl

-- ---- schedules of a form of days

shape_then : Shape → Sets → List ℕ
shape_then x s = shape_text x ++ (months_text s.months ++ (years_text s.years ++ []))

shaped_behind : (x : Shape) (s : Sets) → shaped_text x s ≡ times_text true s ++ shape_then x s
unfolding shaped_text shape_then
shaped_behind x s =
    ap (λ (o : List ℕ). times_text true s ++ (shape_text x ++ (months_text s.months ++ o))) (sym (append-nil (years_text s.years)))

shape_tail : (s : Sets) → InUnits s → IsTail 2 (months_text s.months ++ (years_text s.years ++ []))
shape_tail s a = months_tail s.months (years_text s.years ++ []) a.months (years_tail s.years [] a.years end_tail)

shape_after : (x : Shape) (s : Sets) → IsBehindTimes (shape_then x s)
unfolding shape_then
shape_after x s = shape_behind x (months_text s.months ++ (years_text s.years ++ []))

-- forms with the same words
shaped_apart : (x y : Shape) (s t : Sets) → IsShape x → IsShape y → InUnits s → InUnits t → shaped_text x s ≡ shaped_text y t
    → (x ≡ y) × SameTimes s t × (s.months ≡ t.months) × (s.years ≡ t.years)
unfolding shape_then
shaped_apart x y s t f g a b e =
    let times = times_apart true s t (shape_then x s) (shape_then y t) a b (shape_after x s) (shape_after y t)
    (sym (shaped_behind x s) ∙ (e ∙ shaped_behind y t)) in
    let days = shape_apart x y _ _ f g (shape_tail s a) (shape_tail t b) times.1 in
    let sy = years_tail s.years [] a.years end_tail in
    let ty = years_tail t.years [] b.years end_tail in
    let monthly = months_apart s.months t.months _ _ a.months b.months sy ty days.1 in
    let yearly = years_apart s.years t.years [] [] a.years b.years end_tail end_tail monthly.1 in
    (days.0, times.0, monthly.0, yearly.0)

-- a form isn't one schedule and others
shaped_union : (x : Shape) (s t : Sets) (ts : List Sets) → IsShape x → InUnits s → InUnits t → shaped_text x s ≡ union_text (t ∷ ts) → ⊥
unfolding shape_then behind
shaped_union x s t ts f a b e =
    let ty = years_tail t.years (others_text ts) b.years (others_tail ts) in
    let tm = months_tail t.months (years_text t.years ++ others_text ts) b.months ty in
    let times = times_apart true s t (shape_then x s) (behind t (others_text ts)) a b (shape_after x s) (dates_behind t _ b tm)
    (sym (shaped_behind x s) ∙ (e ∙ schedule_behind true t (others_text ts))) in
    shape_dates x t _ _ f b tm times.1

never_shaped : (x : Shape) (s : Sets) → shaped_text x s ≡ codes "Never" → ⊥
never_shaped x s e = unlike_at is_n 0 _ _ (times_n s (shape_then x s)) refl (sym (shaped_behind x s) ∙ e)

-- ---- sentences

never_from : (o : Option Shape) (t : Sets) (ts : List Sets) → text_from o t (t ∷ ts) ≡ codes "Never" → ⊥
never_from None t ts e = never_apart t (others_text ts) e
never_from (Some x) t ts e = never_shaped x (base t (t ∷ ts)) e

both_shaped : (x y : Shape) (s t : Sets) (ss ts : List Sets) → InUnits s → InUnits t → IsFound x s ss → IsFound y t ts
    → shaped_text x (base s ss) ≡ shaped_text y (base t ts) → ss ≡ ts
both_shaped x y s t ss ts a b f g e =
    let c = shaped_apart x y (base s ss) (base t ts) f.bounds g.bounds (base_in s ss a) (base_in t ts b) e in
    let same : base s ss ≡ base t ts = same_sets (base s ss) (base t ts) c.1 refl refl c.2 c.3 in
    sym (shaped_list x s ss f.fits)
    ∙ (ap (λ (o : Shape). schedules_of (days_of o) (base s ss)) c.0 ∙ (ap (λ (o : Sets). schedules_of (days_of y) o) same ∙ shaped_list y t ts g.fits))

from_apart : (o p : Option Shape) (s t : Sets) (ss ts : List Sets) → AllByRecursion InUnits (s ∷ ss) → AllByRecursion InUnits (t ∷ ts)
    → shape_from s (s ∷ ss) ≡ o → shape_from t (t ∷ ts) ≡ p → text_from o s (s ∷ ss) ≡ text_from p t (t ∷ ts) → s ∷ ss ≡ t ∷ ts
from_apart None None s t ss ts a b x y e = unions_apart (s ∷ ss) (t ∷ ts) a b e
from_apart None (Some q) s t ss ts a b x y e =
    absurd (shaped_union q (base t (t ∷ ts)) s ss (found t (t ∷ ts) b.0 q y).bounds (base_in t (t ∷ ts) b.0) a.0 (sym e))
from_apart (Some p) None s t ss ts a b x y e =
    absurd (shaped_union p (base s (s ∷ ss)) t ts (found s (s ∷ ss) a.0 p x).bounds (base_in s (s ∷ ss) a.0) b.0 e)
from_apart (Some p) (Some q) s t ss ts a b x y e =
    both_shaped p q s t (s ∷ ss) (t ∷ ts) a.0 b.0 (found s (s ∷ ss) a.0 p x) (found t (t ∷ ts) b.0 q y) e

pub sentences_differ : SentencesDiffer
sentences_differ [] [] a b e = refl
sentences_differ [] (t ∷ ts) a b e = absurd (never_from (shape_from t (t ∷ ts)) t ts (sym e))
sentences_differ (s ∷ ss) [] a b e = absurd (never_from (shape_from s (s ∷ ss)) s ss e)
sentences_differ (s ∷ ss) (t ∷ ts) a b e = from_apart (shape_from s (s ∷ ss)) (shape_from t (t ∷ ts)) s t ss ts a b refl refl e

pub forms_are_meant : FormsAreMeant
forms_are_meant s ss shape a e = shaped_list shape s (s ∷ ss) (found s (s ∷ ss) a shape e).fits
