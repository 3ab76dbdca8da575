-- A text of the grammar without the mark of the last day keeps its meaning.
use Rattle.std.proofs.Common.{◌≡◌, ◌↔◌, ℕ, Bool, true, false, cond, inl, inr, Option, Some, None, List, [], ◌∷◌, ◌++◌, map, codes, refl, sym, ap, ◌∙◌}
use Rattle.std.specs.List.{AllByRecursion, Any}
use Rattle.std.specs.Str.{bytes_eq}
use Rattle.cron_units.specs.Denotation.{LiesIn, MarksLastDay, Denotes}
use Rattle.cron_units.specs.Refusals.{Refusal, unknown_name, IsBaseRefusedFor, below, above, no_range, first_unknown, second_unknown, turned, IsRefusedFor, by_base, by_zero, by_step, by_stepped, unknown, IsUnrefused}
use Rattle.cron_units.specs.Items.{Base, every, question_mark, single, number_range, name_range, Item, plain, stepped, name}
use Rattle.cron_units.proofs.SetLemmas.{set_without}
use Rattle.cron_units.specs.Sets.{Sets}
use Rattle.cron_units.specs.Units.{TimeUnit, FieldSet, contains, ordinal_of, is_name, means_last_day, without_last_day}
use Rattle.cron_units.specs.Units as units
use Rattle.cron_text.specs.Fields.{base_in, item_in, items_in, IsField}
use Rattle.cron_text.specs.Meaning.{DenoteSets, six_units, field_sets, earlier_shorthands, meaning_in, trimmed_front, trimmed_end, yearly, daily}
use Rattle.cron_text.specs.TextLaws.{KeepsItsMeaning}
use Rattle.cron_text.specs.Tokens.{Token, tokens}
use Rattle.cron_text.proofs.FieldStates.{some_same}
use Rattle.std.proofs.lemmas.Bool.{false≢true, false_from_ne_true}
use Rattle.std.proofs.lemmas.List.Elements.{All-weaker, All-contains}

-- no name of the unit is its word for the last day
abbrev IsNoName : TimeUnit → Type 0
IsNoName u = (word : List ℕ) → means_last_day u word ≡ true → ordinal_of u word ≡ None

-- ---- the same fields

base_same : (u : TimeUnit) (b : Base) → base_in (without_last_day u) b ≡ base_in u b
base_same u every = refl
base_same u question_mark = refl
base_same u (single n) = refl
base_same u (number_range a b) = refl
base_same u (name_range v w) = refl

item_same : (u : TimeUnit) (i : Item) → item_in (without_last_day u) i ≡ item_in u i
item_same u (plain b) = base_same u b
item_same u (stepped b n) = base_same u b
item_same u (name w) = refl

items_same : (u : TimeUnit) (is : List Item) → items_in (without_last_day u) is ≡ items_in u is
items_same u [] = refl
items_same u (i ∷ is) = rw (item_same u i, items_same u is) refl

field_same : (u : TimeUnit) (ts : List Token) (is : List Item) → IsField (without_last_day u) ts is → IsField u ts is
field_same u ts is f =
    record { written = f.written; nonempty = f.nonempty; spaced = f.spaced; wildcards_allowed = sym (items_same u is) ∙ f.wildcards_allowed }

-- ---- the same sets

-- what is refused with the word was refused without it
base_then : (u : TimeUnit) (b : Base) (r : Refusal) → IsBaseRefusedFor u b r → IsBaseRefusedFor (without_last_day u) b r
base_then u every r k = elim k [ ]
base_then u question_mark r k = elim k [ ]
base_then u (single n) r (below l) = below l
base_then u (single n) r (above l) = above l
base_then u (number_range a b) r (no_range k) = no_range k
base_then u (name_range v w) r (first_unknown e) = first_unknown e
base_then u (name_range v w) r (second_unknown e f) = second_unknown e f
base_then u (name_range v w) r (turned e f l) = turned e f l

refused_then : (u : TimeUnit) (i : Item) (r : Refusal) → IsRefusedFor u i r → IsRefusedFor (without_last_day u) i r
refused_then u (plain b) r (by_base k) = by_base (base_then u b r k)
refused_then u (stepped b n) r (by_zero e) = by_zero e
refused_then u (stepped b n) r (by_step l) = by_step l
refused_then u (stepped b n) r (by_stepped some fits k) = by_stepped some fits (base_then u b r k)
refused_then u (name word) r (unknown e f) = unknown refl f

no_ordinal : (o : Option ℕ) (x : ℕ) → o ≡ None → o ≡ Some x → ⊥
no_ordinal o x e f = cc

-- what lies in an item is the same
lies_same : (u : TimeUnit) (i : Item) (x : ℕ) → IsNoName u → LiesIn (without_last_day u) i x ↔ LiesIn u i x
lies_same u (plain every) x free = (λ l. l, λ l. l)
lies_same u (plain question_mark) x free = (λ l. l, λ l. l)
lies_same u (plain (single n)) x free = (λ l. l, λ l. l)
lies_same u (plain (number_range a b)) x free = (λ l. l, λ l. l)
lies_same u (plain (name_range v w)) x free = (λ l. l, λ l. l)
lies_same u (stepped every n) x free = (λ l. l, λ l. l)
lies_same u (stepped question_mark n) x free = (λ l. l, λ l. l)
lies_same u (stepped (single k) n) x free = (λ l. l, λ l. l)
lies_same u (stepped (number_range a b) n) x free = (λ l. l, λ l. l)
lies_same u (stepped (name_range v w) n) x free = (λ l. l, λ l. l)
lies_same u (name word) x free = (
  λ l. (false_from_ne_true (means_last_day u word) (λ marks. no_ordinal (ordinal_of u word) x (free word marks) l.1), l.1),
  λ l. (refl, l.1),
)

-- without the word there is no mark
no_mark : (u : TimeUnit) (i : Item) → MarksLastDay (without_last_day u) i → ⊥
no_mark u (plain b) m = m
no_mark u (stepped b n) m = m
no_mark u (name word) m = false≢true m

-- what is marked with it was refused without it
marked_refused : (u : TimeUnit) (i : Item) → IsNoName u → MarksLastDay u i → IsUnrefused (without_last_day u) i → ⊥
marked_refused u (plain b) free m k = m
marked_refused u (stepped b n) free m k = m
marked_refused u (name word) free m k = k (unknown_name word) (unknown refl (free word m))

some_also : (P Q : Item → Type 0) (is : List Item) → ((i : Item) → P i → Q i) → Any P is → Any Q is
some_also P Q is f a = (a.0, a.1, a.2, a.3, f a.1 a.4)

kept_denotes : (u : TimeUnit) (is : List Item) (s : FieldSet) → IsNoName u → Denotes (without_last_day u) is s → Denotes u is s × (s.last_day ≡ false)
kept_denotes u is s free d =
    let unmarked = false_from_ne_true s.last_day (λ m. let a = d.mark.0 m in no_mark u a.1 a.4) in (
      record {
        unrefused = All-weaker (IsUnrefused (without_last_day u)) (IsUnrefused u) (λ i f r k. f r (refused_then u i r k)) is d.unrefused;
        is_set = d.is_set ∙ set_without u (contains s.ordinals);
        ordinals = λ x. (
          λ c. some_also (λ i. LiesIn (without_last_day u) i x) (λ i. LiesIn u i x) is (λ i. (lies_same u i x free).0) ((d.ordinals x).0 c),
          λ a. (d.ordinals x).1 (some_also (λ i. LiesIn u i x) (λ i. LiesIn (without_last_day u) i x) is (λ i. (lies_same u i x free).1) a),
        );
        mark = (
          λ m. absurd (false≢true (sym unmarked ∙ m)),
          λ a. absurd (marked_refused u a.1 free a.4 (All-contains (IsUnrefused (without_last_day u)) is a.1 d.unrefused (a.0, a.2, a.3))),
        );
      },
      unmarked,
    )

-- ---- the same texts

abbrev AreUnmarked : List TimeUnit → List FieldSet → Type 0
AreUnmarked [] ss = Unit {0}
AreUnmarked (u ∷ us) [] = ⊥
AreUnmarked (u ∷ us) (s ∷ ss) = (s.last_day ≡ false) × AreUnmarked us ss

kept_sets : (us : List TimeUnit) (ts : List Token) (ss : List FieldSet) → AllByRecursion IsNoName us → DenoteSets (map without_last_day us) ts ss
    → DenoteSets us ts ss × AreUnmarked us ss
kept_sets [] ts ss k h = (h, tt)
kept_sets (u ∷ us) ts [] k h = absurd h
kept_sets (u ∷ us) ts (s ∷ ss) k h =
    let here = kept_denotes u h.2 s k.0 h.5 in
    let rest = kept_sets us h.1 ss k.1 h.6 in
    ((h.0, h.1, h.2, h.3, field_same u h.0 h.2 h.4, here.0, rest.0), (here.1, rest.1))

-- one of these words is one of more words
kept_word : (es fs : List (List ℕ × Sets)) (word : List ℕ) (s : Sets) → meaning_in es word ≡ Some s → meaning_in (es ++ fs) word ≡ Some s
kept_word [] fs word s h = absurd (cc)
kept_word (e ∷ es) fs word s h = by_test (bytes_eq word e.0) (kept_word es fs word s) h where
  by_test : (b : Bool) → (meaning_in es word ≡ Some s → meaning_in (es ++ fs) word ≡ Some s) → cond b (Some e.1) (meaning_in es word) ≡ Some s
      → cond b (Some e.1) (meaning_in (es ++ fs) word) ≡ Some s
  by_test true f k = k
  by_test false f k = f k

unmarked_word : (es : List (List ℕ × Sets)) (word : List ℕ) (s : Sets) → AllByRecursion (λ e. e.1.days_of_month.last_day ≡ false) es
    → meaning_in es word ≡ Some s → s.days_of_month.last_day ≡ false
unmarked_word [] word s a h = absurd (cc)
unmarked_word (e ∷ es) word s a h = by_test (bytes_eq word e.0) (unmarked_word es word s a.1) h where
  by_test : (b : Bool) → (meaning_in es word ≡ Some s → s.days_of_month.last_day ≡ false) → cond b (Some e.1) (meaning_in es word) ≡ Some s
      → s.days_of_month.last_day ≡ false
  by_test true f k = ap (λ (t : Sets). t.days_of_month.last_day) (sym (some_same e.1 s k)) ∙ a.0
  by_test false f k = f k

no_word : (u : TimeUnit) → u.last_day ≡ None → IsNoName u
no_word u none word e = absurd (false≢true (ap (λ (o : Option (List ℕ)). is_name o word) (sym none) ∙ e))

no_names : AllByRecursion IsNoName six_units
no_names = (
  no_word units.seconds refl,
  (
    no_word units.minutes refl,
    (no_word units.hours refl, (λ word e. refl, (no_word units.months refl, (no_word units.days_of_week refl, tt)))),
  ),
)

pub keeps_its_meaning : KeepsItsMeaning
keeps_its_meaning text s (inl h) =
    let all = kept_sets six_units (tokens text) (field_sets s) no_names h in
    let from_hours = all.1.1.1 in
    (inl all.0, from_hours.1.0)
keeps_its_meaning text s (inr h) =
    let word = trimmed_end (trimmed_front text) in (
      inr (kept_word earlier_shorthands ((codes "@annually", yearly) ∷ (codes "@midnight", daily) ∷ []) word s h),
      unmarked_word earlier_shorthands word s (refl, (refl, (refl, (refl, (refl, tt))))) h,
    )
