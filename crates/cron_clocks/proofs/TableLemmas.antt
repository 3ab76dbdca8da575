-- What a zone's table tells of the civil seconds between its transitions.
use Rattle.std.proofs.Common.{◌≡◌, ℕ, [], ◌∷◌, option_map, vec_len, ◌+◌, ◌-◌, ◌<◌, ◌≤◌, ◌==◌, inl, inr, ℤ, pos, ◌≤ℤ◌, ◌<ℤ◌, int_le, int_lt, Bool, true, false, cond, List, map, length, get_or, Option, Some, None, refl, sym, ap, subst, ◌∙◌, arith}
use Rattle.std.proofs.lemmas.Bool.Decides.{leb_tells, nat_tests}
use Rattle.std.proofs.lemmas.Grind.{common_steps}
use Rattle.std.proofs.lemmas.Int.{ints}
use Rattle.std.proofs.lemmas.List.{get_or-map}
use Rattle.std.proofs.lemmas.List.Sums.{prefix_len_is, prefix_len_passes, prefix_len_stops, prefix_len-le-length}
use Rattle.std.proofs.Props.{props}
use Rattle.std.specs.List.{prefix_len}
use mathlib.Core.HLevel.{is_prop→PathP}
use Rattle.jiff_core.specs.Timestamp.{IsOffsetSeconds}
use Rattle.jiff_core.specs.declared.Offset.{Offset}
use Rattle.jiff_core.specs.declared.civil.datetime.DateTime.{DateTime}
use Rattle.jiff_core.proofs.SignedLemmas.{signed_arith}
use Rattle.jiff_tz.specs.declared.posix.DayTime.{DayTime}
use Rattle.jiff_tz.specs.declared.posix.Dst.{Dst}
use Rattle.jiff_tz.specs.declared.posix.TimeZone.{TimeZone as Rule}
use Rattle.jiff_tz.specs.declared.tzif.Tzif.{Tzif}
use Rattle.jiff_tz.specs.declared.tzif.transition.Transition.{Transition}
use Rattle.jiff_tz.specs.PosixRule.{ambiguous_at_by, rule_nanos}
use Rattle.jiff_tz.specs.PosixText.{DstText, TzText, day_time_view, dst_view, tz_view}
use Rattle.jiff_tz.specs.PosixRule as Posix
use Rattle.jiff_tz.specs.Tzif.{ambiguous_at, ambiguous_after, civil_count_at, civil_start, civil_end, is_inside, no_transition, offsets_in, transition_at, type_after}
use Rattle.jiff_tz.specs.TzifText.{no_row, transition_text}
use Rattle.jiff_tz.specs.TzifText as Text
use Rattle.jiff_tz.proofs.TzifLemmas.{starts_rise}
use Rattle.cron_moments.specs.Civil.{civil, seconds_in_range}
use Rattle.cron_moments.proofs.CivilLemmas.{civil_seconds-civil}
use Rattle.cron_clocks.proofs.Windows.{le_yes, le_no, lt_yes, lt_no}
use Rattle.cron_clocks.specs.Spans.{IsNarrowed, IsUnparted}
use Rattle.cron_clocks.specs.Steady.{IsToldBy}
use Rattle.cron_clocks.specs.Tables.{IsAlikeAround, IsBetweenTransitions, IsToldAlikeIn, offsets_around, row_at, transitions_of}

-- ---- the transitions of a table, and what stands in it

pub transitions_length : (z : Tzif) → length (transitions_of z) ≡ length z.transitions.items
transitions_length z = grind (arith, common_steps)

pub transition_is : (z : Tzif) (i : ℕ) → i < length z.transitions.items → row_at (transitions_of z) i ≡ transition_text (transition_at z i)
transition_is z i l = get_or-map transition_text z.transitions.items i (no_transition z) no_row l

lengths : (z : Tzif) (ts : List Transition) → map transition_text ts ≡ transitions_of z → length ts ≡ length (transitions_of z)
lengths z ts same =
    let own : length (map transition_text ts) ≡ length ts = grind (arith, common_steps) in
    sym own ∙ ap length same

-- a transition that stands in a list which says the same as the table
pub transition_here : (z : Tzif) (ts : List Transition) (i : ℕ) (t : Transition) → map transition_text ts ≡ transitions_of z → t ≡ get_or ts i t → i < length (transitions_of z)
    → transition_text t ≡ row_at (transitions_of z) i
transition_here z ts i t same is l =
    let size = lengths z ts same in
    ap transition_text is ∙ sym (get_or-map transition_text ts i t no_row (omega arith)) ∙ ap (λ rows. row_at rows i) same

pub transition_of : (z : Tzif) (ts : List Transition) (i : ℕ) (t : Transition) → map transition_text ts ≡ transitions_of z → t ≡ get_or ts i t → i < length (transitions_of z)
    → transition_text t ≡ transition_text (transition_at z i)
transition_of z ts i t same is l =
    let size = transitions_length z in
    transition_here z ts i t same is l ∙ transition_is z i (omega arith)

count_by_text : (k : ℤ) (ts : List Transition)
    → prefix_len (λ t. int_le (civil_start t) k) ts ≡ prefix_len (λ r. int_le (Text.civil_start r) k) (map transition_text ts)
count_by_text k [] = refl
count_by_text k (t ∷ ts) = ap (λ n. cond (int_le (civil_start t) k) (1 + n) 0) (count_by_text k ts)

-- a search of such a list counts the transitions of the table
pub counted : (z : Tzif) (k : ℤ) (ts : List Transition) → map transition_text ts ≡ transitions_of z
    → prefix_len (λ t. int_le (civil_start t) k) ts ≡ civil_count_at z k
counted z k ts same =
    count_by_text k ts ∙ ap (λ rows. prefix_len (λ r. int_le (Text.civil_start r) k) rows) same ∙ sym (count_by_text k z.transitions.items)

-- ---- what a list, a type or a rule says is all that is told by it

pub same_offset : (a b : Offset) → a.seconds ≡ b.seconds → a ≡ b
same_offset a b e =
    λ i. record {
      seconds = e i;
      in_range = is_prop→PathP (λ j. IsOffsetSeconds (e j)) (λ j. hlevel props) a.in_range b.in_range i;
    }

pub same_transition : (t u : Transition) → transition_text t ≡ transition_text u → offsets_in t ≡ offsets_in u
same_transition t u same =
    let before = same_offset t.before u.before (ap (λ (r : Text.TransitionText). r.before) same) in
    let after = same_offset t.after.offset u.after.offset (ap (λ (r : Text.TransitionText). r.after.seconds) same) in
    rw (before, after) refl

transition_alike : (y : ℤ) (a b : DayTime) (s : ℤ) → day_time_view a ≡ day_time_view b → rule_nanos y a s ≡ rule_nanos y b s
unfolding rule_nanos
transition_alike y a b s same =
    let day : a.date ≡ b.date = ap (λ p. p.0) same in
    let time : a.time ≡ b.time = ap (λ p. p.1) same in
    rw (day, time) refl

dst_alike : (std : Offset) (a b : Option Dst) (dt : DateTime) → option_map dst_view a ≡ option_map dst_view b
    → ambiguous_at_by std a dt ≡ ambiguous_at_by std b dt
dst_alike std None None dt same = refl
dst_alike std None (Some e) dt same = absurd (cc)
dst_alike std (Some d) None dt same = absurd (cc)
dst_alike std (Some d) (Some e) dt same =
    let view : dst_view d ≡ dst_view e = cc in
    let offset = same_offset d.offset e.offset (ap (λ (v : DstText). v.seconds) view) in
    let start = transition_alike dt.date.year d.rule.start e.rule.start (pos 0) (ap (λ (v : DstText). v.start) view) in
    let finish = transition_alike dt.date.year d.rule.end e.rule.end (pos 0) (ap (λ (v : DstText). v.finish) view) in
    rw (offset, start, finish) refl

rule_alike : (r s : Rule) (dt : DateTime) → tz_view r ≡ tz_view s → Posix.ambiguous_at r dt ≡ Posix.ambiguous_at s dt
rule_alike r s dt same =
    let std = same_offset r.std_offset s.std_offset (ap (λ (v : TzText). v.std_seconds) same) in
    ap (λ o. ambiguous_at_by o r.dst dt) std ∙ dst_alike s.std_offset r.dst s.dst dt (ap (λ (v : TzText). v.dst) same)

by_rule : (z : Tzif) (n : ℕ) (r : Rule) (o : Option Rule) (dt : DateTime) → z.posix_tz ≡ o → option_map tz_view (Some r) ≡ option_map tz_view o
    → n ≡ length z.transitions.items
    → ambiguous_after z n dt ≡ Posix.ambiguous_at r dt
by_rule z n r None dt is same all = absurd (cc)
by_rule z n r (Some s) dt is same all =
    let whole : (n == vec_len z.transitions) ≡ true = grind (arith, nat_tests) in
    let view : tz_view r ≡ tz_view s = cc in
    rw (whole, is) (sym (rule_alike r s dt view))

-- past all transitions a rule tells the offsets that says what the table's does
pub past_all : (z : Tzif) (n : ℕ) (r : Rule) (o : Option Rule) (ts : List Transition) (dt : DateTime) → option_map tz_view o ≡ option_map tz_view z.posix_tz
    → o ≡ Some r → map transition_text ts ≡ transitions_of z → n ≡ length ts → ambiguous_after z n dt ≡ Posix.ambiguous_at r dt
past_all z n r o ts dt same is rows all =
    let size = lengths z ts rows in
    let own = transitions_length z in
    by_rule z n r z.posix_tz dt refl (ap (option_map tz_view) (sym is) ∙ same) (omega arith)

-- ---- the transitions that begin at or before a second

-- between the last of the transitions and the next one there are as many
count_is : (z : Tzif) (k : ℤ) (n : ℕ) → n ≤ length z.transitions.items
    → (0 < n → civil_start (transition_at z (n - 1)) ≤ℤ k) → (n < length z.transitions.items → k <ℤ civil_start (transition_at z n))
    → civil_count_at z k ≡ n
count_is z k n bound last next =
    prefix_len_is (λ t. int_le (civil_start t) k) z.transitions.items n (no_transition z) bound
    (λ j l.
    let rise = starts_rise z.first.offset.seconds z.transitions.items (no_transition z) z.ordered j (n - 1) (omega arith) (omega arith) in
    let up = last (omega arith) in
    le_yes (civil_start (transition_at z j)) k (omega (arith, signed_arith)))
    (λ l. le_no (civil_start (transition_at z n)) k (next l))

le_true : (a b : ℤ) → int_le a b ≡ true → a ≤ℤ b
le_true a b e = grind (arith, ints)

le_false : (a b : ℤ) → int_le a b ≡ false → b <ℤ a
le_false a b e = grind (arith, ints)

-- ---- one side of a transition

passed_by : (first end transition c k : ℤ) → IsUnparted first end transition → first ≤ℤ c → c <ℤ end → transition ≤ℤ c → first ≤ℤ k → transition ≤ℤ k
passed_by first end transition c k (inl before) low high by above = omega (arith, signed_arith)
passed_by first end transition c k (inr late) low high by above = absurd (omega (arith, signed_arith))

ahead_of : (first end transition c k : ℤ) → IsUnparted first end transition → first ≤ℤ c → c <ℤ end → c <ℤ transition → k <ℤ end → k <ℤ transition
ahead_of first end transition c k (inl before) low high by below = absurd (omega (arith, signed_arith))
ahead_of first end transition c k (inr late) low high by below = omega (arith, signed_arith)

short_alike : (first end transition c k : ℤ) → IsUnparted first end transition → first ≤ℤ c → c <ℤ end → first ≤ℤ k → k <ℤ end → int_lt k transition ≡ int_lt c transition
short_alike first end transition c k (inl before) c_low c_high k_low k_high =
    lt_no k transition (omega (arith, signed_arith)) ∙ sym (lt_no c transition (omega (arith, signed_arith)))
short_alike first end transition c k (inr late) c_low c_high k_low k_high =
    lt_yes k transition (omega (arith, signed_arith)) ∙ sym (lt_yes c transition (omega (arith, signed_arith)))

-- ---- what the transitions around a civil second tell of those between them

pub is_inside-some : (z : Tzif) (n : ℕ) (k : ℤ) → 0 < n → is_inside z n k ≡ int_lt k (civil_end (transition_at z (n - 1)))
is_inside-some z n k l =
    let some : (n == 0) ≡ false = grind (arith, nat_tests) in
    rw some refl

-- the offsets of a civil second by the transitions around it
told_around : (z : Tzif) (k : ℕ) → k < seconds_in_range
    → ambiguous_at z (civil k) ≡ offsets_around z (civil_count_at z (pos k)) (is_inside z (civil_count_at z (pos k)) (pos k)) (civil k)
told_around z k h = rw (civil_seconds-civil k (omega arith)) refl

pub told_where : (z : Tzif) (c n : ℕ) (a b : Option Offset) → c < seconds_in_range → n ≡ civil_count_at z (pos c)
    → IsToldBy (offsets_around z n (is_inside z n (pos c)) (civil c)) a b → IsToldBy (ambiguous_at z (civil c)) a b
told_where z c n a b h is told = rw (told_around z c h, sym is) told

module _ (z : Tzif) (c : ℕ) (first end : ℤ) (low : first ≤ℤ pos c) (high : pos c <ℤ end)
    (between : IsBetweenTransitions (transitions_of z) (civil_count_at z (pos c)) first end) where
  abbrev count : ℕ
  count = civil_count_at z (pos c)

  abbrev size : ℕ
  size = length z.transitions.items

  count_bound : count ≤ size
  count_bound = prefix_len-le-length _ z.transitions.items

  begun : 0 < count → IsUnparted first end (civil_start (transition_at z (count - 1)))
  begun l = let bound = count_bound in
      subst (λ (t : Text.TransitionText). IsUnparted first end (Text.civil_start t)) (transition_is z (count - 1) (omega arith)) (between.begun l)

  ended : 0 < count → IsUnparted first end (civil_end (transition_at z (count - 1)))
  ended l = let bound = count_bound in
      subst (λ (t : Text.TransitionText). IsUnparted first end (Text.civil_end t)) (transition_is z (count - 1) (omega arith)) (between.ended l)

  next : count < size → IsUnparted first end (civil_start (transition_at z count))
  next l =
      let same = transitions_length z in
      subst (λ (t : Text.TransitionText). IsUnparted first end (Text.civil_start t)) (transition_is z count l) (between.next (omega arith))

  same_count : (k : ℤ) → first ≤ℤ k → k <ℤ end → civil_count_at z k ≡ count
  same_count k above below = count_is z k count count_bound
      (λ l. passed_by first end _ (pos c) k (begun l) low high
      (le_true _ _ (prefix_len_passes (λ t. int_le (civil_start t) (pos c)) z.transitions.items (count - 1) (no_transition z) (omega arith))) above)
      (λ l. ahead_of first end _ (pos c) k (next l) low high
      (le_false _ _ (prefix_len_stops (λ t. int_le (civil_start t) (pos c)) z.transitions.items (no_transition z) l)) below)

  same_side : (k : ℤ) → first ≤ℤ k → k <ℤ end → is_inside z count k ≡ is_inside z count (pos c)
  same_side k above below = elim (leb_tells 1 count) [
    | inl some ↦
        is_inside-some z count k (omega (arith, some.1))
        ∙ short_alike first end _ (pos c) k (ended (omega (arith, some.1))) low high above below
        ∙ sym (is_inside-some z count (pos c) (omega (arith, some.1)))
    | inr none ↦
        let zero_is : count ≡ 0 = omega (arith, none.1) in
        rw zero_is refl
  ]

  told_from : (k : ℕ) → k < seconds_in_range → first ≤ℤ pos k → pos k <ℤ end
      → ambiguous_at z (civil k) ≡ offsets_around z count (is_inside z count (pos c)) (civil k)
  told_from k h above below =
      told_around z k h
      ∙ ap (λ (n : ℕ). offsets_around z n (is_inside z n (pos k)) (civil k)) (same_count (pos k) above below)
      ∙ ap (λ (b : Bool). offsets_around z count b (civil k)) (same_side (pos k) above below)

  told_alike_in : pos 0 ≤ℤ first → end ≤ℤ pos seconds_in_range → IsAlikeAround z count (is_inside z count (pos c)) c first end → IsToldAlikeIn z c first end
  told_alike_in start last alike k above below =
      told_from k (omega (arith, signed_arith)) above below
      ∙ alike k above below
      ∙ sym (told_from c (omega (arith, signed_arith)) low high)

-- civil seconds between transitions, of which the same is told past so many, are told alike
pub alike_where : (z : Tzif) (c n : ℕ) (from to first end : ℤ) → n ≡ civil_count_at z (pos c) → first ≤ℤ pos c → pos c <ℤ end
    → IsNarrowed (pos 0) (pos seconds_in_range) from to → IsNarrowed from to first end
    → IsBetweenTransitions (transitions_of z) n first end → IsAlikeAround z n (is_inside z n (pos c)) c from to → IsToldAlikeIn z c first end
alike_where z c n from to first end is above below range within between alike =
    told_alike_in z c first end above below (rw (sym is) between)
    (omega (arith, signed_arith, range.0, within.0)) (omega (arith, signed_arith, range.1, within.1))
    (rw (sym is) (λ k past short. alike k (omega (arith, signed_arith, within.0)) (omega (arith, signed_arith, within.1))))

-- ---- the offset past so many transitions

pub first_type : (z : Tzif) (n : ℕ) → n ≡ 0 → (type_after z n).offset ≡ z.first.offset
first_type z n none = rw none refl

pub last_type : (z : Tzif) (n : ℕ) → 0 < n → (type_after z n).offset ≡ (transition_at z (n - 1)).after.offset
last_type z n l =
    let some : (n == 0) ≡ false = grind (arith, nat_tests) in
    rw some refl
