-- The eras of a table: what each of them says, and that a list of them means the table's zone.
use Rattle.std.proofs.Common.{◌≡◌, ℕ, zero, suc, ◌+◌, ◌-◌, ◌<◌, ◌≤◌, ◌==◌, ℤ, pos, neg_ℤ, ◌<ℤ◌, ◌≤ℤ◌, int_le, Bool, true, false, cond, List, Option, Some, None, option_map, vec_len, inl, inr, refl, sym, ap, subst, ◌∙◌, arith}
use Rattle.std.specs.Prelude.{IfSome, MatchOption, map, slice_get, length}
use Rattle.std.proofs.lemmas.Bool.Decides.{nat_tests, leb_tells}
use Rattle.std.proofs.lemmas.Grind.{common_steps}
use Rattle.std.proofs.lemmas.Int.{ints}
use Rattle.std.proofs.lemmas.List.Sums.{prefix_len-le-length, prefix_len_passes, prefix_len_stops}
use Rattle.std.proofs.lemmas.Option.{slice_get_cases, slice_get_past, slice_get_within}
use Rattle.jiff_core.proofs.SignedLemmas.{signed_arith}
use Rattle.jiff_core.specs.Timestamp.{IsTimestampNanos, nanos_of_seconds}
use Rattle.jiff_core.specs.declared.Offset.{Offset}
use Rattle.jiff_tz.specs.declared.posix.DayTime.{DayTime}
use Rattle.jiff_tz.specs.declared.posix.Dst.{Dst}
use Rattle.jiff_tz.specs.declared.posix.TimeZone.{TimeZone as PosixRule}
use Rattle.jiff_tz.specs.declared.timezone.TimeZone.TheVariants.{Posix}
use Rattle.jiff_tz.specs.declared.tzif.Tzif.{Tzif}
use Rattle.jiff_tz.specs.declared.tzif.transition.Transition.{Transition}
use Rattle.jiff_tz.specs.PosixRule.{match_some}
use Rattle.jiff_tz.specs.PosixText.{DstText, TzText, day_time_view, dst_view, tz_view}
use Rattle.jiff_tz.specs.PosixRule as Rule
use Rattle.jiff_tz.specs.Tzif.{count_at, floor_second, no_transition, rule_after, transition_at, type_after}
use Rattle.jiff_tz.specs.Tzif as Table
use Rattle.jiff_tz.specs.TzifText.{transition_text}
use Rattle.jiff_tz.specs.Zone as Zone
use Rattle.jiff_tz.proofs.ZoneTheorems.{count_is, goes_on}
use Rattle.cron_clocks.specs.Clocks.{LookupsAgree}
use Rattle.cron_clocks.specs.Tables.{transitions_of}
use Rattle.cron_clocks.proofs.TableLemmas.{transitions_length}
use Rattle.cron_clocks.proofs.RuleAgreement.{plain_agree}
use Rattle.cron_clocks.proofs.RuleSeasons.{shown_plain}
use Rattle.cron_seconds.proofs.IntLemmas.{int_le-true, int_le-false}
use Rattle.cron_c.specs.Zones.{IsBareDay, IsBareSaving, IsBlank, IsDayIn, IsSavingIn, IsTurnIn, IsZoneIn, IsZoneStruct}
use Rattle.cron_c.specs.Histories.{IsHistory, has_started, started_by}
use Rattle.cron_c.specs.ZoneFiles.{HasDoubleTransition, HoldsSecond, IsEraOf, IsRulePast, SaysRulePast, ShowsAt, start_of, transition_count}
use Rattle.cron_c.specs.declared.era.CronEra.{CronEra}
use Rattle.cron_c.specs.declared.zone.CronTurn.{CronTurn}
use Rattle.cron_c.specs.declared.zone.CronZone.{CronZone}

-- ---- a struct that says a rule says each rule that reads the same

turn_too : (c : CronTurn) (a b : DayTime) → day_time_view a ≡ day_time_view b → IsTurnIn c a → IsTurnIn c b
turn_too c a b same in_a =
    let day : a.date ≡ b.date = ap (λ p. p.0) same in
    let time : a.time ≡ b.time = ap (λ p. p.1) same in
    (subst (IsDayIn c) day in_a.0, in_a.1 ∙ time)

saving_too : (c : CronZone) (a b : Option Dst) → option_map dst_view a ≡ option_map dst_view b → IsSavingIn c a → IsSavingIn c b
saving_too c None None same in_a = in_a
saving_too c None (Some e) same in_a = absurd (cc)
saving_too c (Some d) None same in_a = absurd (cc)
saving_too c (Some d) (Some e) same in_a =
    let view : dst_view d ≡ dst_view e = cc in
    let (kind, saving, starts, ends) = in_a in (
      kind,
      saving ∙ ap (λ (v : DstText). v.seconds) view,
      turn_too c.starts d.rule.start e.rule.start (ap (λ (v : DstText). v.start) view) starts,
      turn_too c.ends d.rule.end e.rule.end (ap (λ (v : DstText). v.finish) view) ends,
    )

-- and the rest of its words are 0 alike
pub bare_too : (c : CronZone) (a b : Option Dst) → option_map dst_view a ≡ option_map dst_view b → IsBareSaving c a → IsBareSaving c b
bare_too c None None same bare = bare
bare_too c None (Some e) same bare = absurd (cc)
bare_too c (Some d) None same bare = absurd (cc)
bare_too c (Some d) (Some e) same bare =
    let view : dst_view d ≡ dst_view e = cc in
    let start : d.rule.start.date ≡ e.rule.start.date = ap (λ (v : DstText). v.start.0) view in
    let finish : d.rule.end.date ≡ e.rule.end.date = ap (λ (v : DstText). v.finish.0) view in
    (subst (IsBareDay c.starts) start bare.0, subst (IsBareDay c.ends) finish bare.1, bare.2)

pub says_too : (c : CronZone) (a b : PosixRule) → tz_view a ≡ tz_view b → IsZoneIn c (Posix a) → IsZoneIn c (Posix b)
says_too c a b same in_a =
    (in_a.0 ∙ ap (λ (v : TzText). v.std_seconds) same, saving_too c a.dst b.dst (ap (λ (v : TzText). v.dst) same) in_a.1)

-- ---- the rule past so many transitions

-- a clock that stays at the offset
steady_past : (t : Tzif) (count : ℕ) (rule : PosixRule) → rule_after t count ≡ None → rule.std_offset ≡ (type_after t count).offset → rule.dst ≡ None
    → IsRulePast t count rule
steady_past t count rule none offset plain = record {
  shown = λ n e.
      shown_plain rule n plain
      ∙ ap (λ (o : Offset). o.seconds) offset
      ∙ sym (ap (λ (o : Option PosixRule). (match_some o (type_after t count).offset (λ z. Rule.offset_at z n)).seconds) none)
      ∙ sym (ap (λ (k : ℕ). (match_some (rule_after t k) (type_after t k).offset (λ z. Rule.offset_at z n)).seconds) e);
  agree = λ h. plain_agree rule plain;
  behind = subst (λ (o : Option PosixRule). MatchOption o (rule.dst ≡ None) (λ own. rule ≡ own)) (sym none) plain;
}

no_rule_yet : (t : Tzif) (count : ℕ) → count < transition_count t → rule_after t count ≡ None
no_rule_yet t count l =
    let short : (count == vec_len t.transitions) ≡ false = grind (arith, nat_tests) in
    rw short refl

no_rule_of : (b : Bool) (o : Option PosixRule) → None ≡ option_map tz_view o → cond b o None ≡ None
no_rule_of true None e = refl
no_rule_of true (Some rule) e = absurd (cc)
no_rule_of false o e = refl

pub short_says : (t : Tzif) (count : ℕ) (rule : PosixRule) → count < transition_count t → rule.std_offset ≡ (type_after t count).offset → rule.dst ≡ None
    → SaysRulePast t count rule
short_says t count rule l offset plain =
    record { own = rule; view = refl; past = steady_past t count rule (no_rule_yet t count l) offset plain }

pub plain_says : (t : Tzif) (count : ℕ) (rule : PosixRule) → None ≡ option_map tz_view t.posix_tz → rule.std_offset ≡ (type_after t count).offset
    → rule.dst ≡ None → SaysRulePast t count rule
plain_says t count rule none offset plain =
    record { own = rule; view = refl; past = steady_past t count rule (no_rule_of (count == vec_len t.transitions) t.posix_tz none) offset plain }

-- the rule behind the table
by_rule : (t : Tzif) (count : ℕ) (own : PosixRule) → t.posix_tz ≡ Some own → count ≡ transition_count t → IsRulePast t count own
unfolding Zone.offset_at
by_rule t count own is all =
    let whole : (count == vec_len t.transitions) ≡ true = grind (arith, nat_tests) in
    let after : rule_after t count ≡ Some own = rw (whole, is) refl in
    record {
      shown = λ n e.
          sym (ap (λ (o : Option PosixRule). (match_some o (type_after t count).offset (λ z. Rule.offset_at z n)).seconds) after)
          ∙ sym (ap (λ (k : ℕ). (match_some (rule_after t k) (type_after t k).offset (λ z. Rule.offset_at z n)).seconds) e);
      agree = λ h. subst (λ (o : Option PosixRule). IfSome o (λ rule. LookupsAgree (Posix rule))) is h;
      behind = subst (λ (o : Option PosixRule). MatchOption o (own.dst ≡ None) (λ it. own ≡ it)) (sym after) refl;
    }

pub last_says : (t : Tzif) (count : ℕ) (rule : PosixRule) (o : Option PosixRule) → t.posix_tz ≡ o → option_map tz_view (Some rule) ≡ option_map tz_view o
    → count ≡ transition_count t → SaysRulePast t count rule
last_says t count rule None is same all = absurd (cc)
last_says t count rule (Some own) is same all =
    let view : tz_view rule ≡ tz_view own = cc in
    record { own = own; view = view; past = by_rule t count own is all }

-- the struct of a rule past so many transitions
pub era_zone : (c : CronZone) (rule : PosixRule) (o : Option PosixRule) → IsZoneIn c (Posix rule) → IsBareSaving c rule.dst
    → MatchOption o (rule.dst ≡ None) (λ own. rule ≡ own) → MatchOption o ((c.kind ≡ 1) × IsBlank c) (λ own. IsZoneStruct c (Posix own))
era_zone c rule None said bare plain = (subst (IsSavingIn c) plain said.1, subst (IsBareSaving c) plain bare)
era_zone c rule (Some own) said bare same = subst (λ (r : PosixRule). IsZoneStruct c (Posix r)) same (said, bare)

-- ---- where the eras start

pub start_next : (t : Tzif) (i : ℕ) → start_of t (i + 1) ≡ (transition_at t i).second
start_next t i =
    let some : (i + 1 == 0) ≡ false = grind (arith, nat_tests) in
    let back : i + 1 - 1 ≡ i = omega arith in
    rw (some, back) refl

pub start_rises : (t : Tzif) → ¬ (HasDoubleTransition t) → (i : ℕ) → i < transition_count t → start_of t i <ℤ start_of t (i + 1)
start_rises t apart zero l =
    let next = start_next t zero in
    let low = (transition_at t 0).second_in in
    let (least, most) = low in
    omega (arith, signed_arith)
start_rises t apart (suc i) l =
    let same : suc i ≡ i + 1 = omega arith in
    let here = start_next t i in
    let next = start_next t (i + 1) in
    let up = (goes_on t i (omega arith)).0 in
    let other : ¬ ((transition_at t i).second ≡ (transition_at t (i + 1)).second) = λ e. apart (i, omega arith, e) in
    rw same (omega (arith, signed_arith))

pub start_past_is : (t : Tzif) (count : ℕ) → 0 < count → start_of t count ≡ (transition_at t (count - 1)).second
start_past_is t count l =
    let some : (count == 0) ≡ false = grind (arith, nat_tests) in
    rw some refl

-- a list that says the same as the table has as many transitions
pub transitions_told : (t : Tzif) (ts : List Transition) → map transition_text ts ≡ transitions_of t → length ts ≡ transition_count t
transitions_told t ts same =
    let own : length (map transition_text ts) ≡ length ts = grind (arith, common_steps) in
    sym own ∙ ap length same ∙ transitions_length t

-- ---- a list of the eras of a table

le_yes : (a b : ℤ) → a ≤ℤ b → int_le a b ≡ true
le_yes a b h = grind (arith, ints)

le_no : (a b : ℤ) → b <ℤ a → int_le a b ≡ false
le_no a b h = grind (arith, ints)

pub floor_of : (k : ℤ) → floor_second (nanos_of_seconds k) ≡ k
floor_of k = omega (arith, signed_arith)

module _ (t : Tzif) (eras : List CronEra) (size : length eras ≡ transition_count t + 1)
    (are : (i : ℕ) (e : CronEra) → slice_get eras i ≡ Some e → IsEraOf t i e) where
  within : (i : ℕ) (e : CronEra) → slice_get eras i ≡ Some e → i ≤ transition_count t
  within i e get = let short = slice_get_within eras i e get in omega arith

  era_here : (i : ℕ) → i ≤ transition_count t → (e : CronEra) × (slice_get eras i ≡ Some e)
  era_here i l = elim (slice_get_cases eras i).1 [
    | inl there ↦ let (e, short, get, at) = there in (e, get)
    | inr past ↦ let end = past.0 in absurd (omega arith)
  ]

  begins_next : (i : ℕ) (e : CronEra) → slice_get eras (i + 1) ≡ Some e → e.starts ≡ (transition_at t i).second
  begins_next i e get = (are (i + 1) e get).start ∙ start_next t i

  before_next : (i : ℕ) (k : ℤ) → i < transition_count t → has_started eras (i + 1) k ≡ false → k <ℤ (transition_at t i).second
  before_next i k l not_yet =
      let (e, get) = era_here (i + 1) (omega arith) in
      let starts = begins_next i e get in
      let late : int_le e.starts k ≡ false = rw get at not_yet in
      let before = int_le-false e.starts k late in
      omega (arith, signed_arith)

  -- as many transitions lie up to a second as the place of the era says that holds it
  pub place_is : (k : ℤ) (i : ℕ) (e : CronEra) → HoldsSecond eras i e k → count_at t k ≡ i
  place_is k i e h = count_is t k i (within i e h.here)
      (λ some.
      let start = (are i e h.here).start ∙ start_past_is t i some in
      let begun = h.begun in
      omega (arith, signed_arith))
      (λ l. before_next i k l h.lasts)

  begun_here : (k : ℤ) (n : ℕ) → neg_ℤ (pos 9_223_372_036_854_775_808) ≤ℤ k → n ≡ count_at t k → start_of t n ≤ℤ k
  begun_here k zero low is = low
  begun_here k (suc n) low is =
      let some : (suc n == 0) ≡ false = grind (arith, nat_tests) in
      let passed = prefix_len_passes (λ (r : Transition). int_le r.second k) t.transitions.items n (no_transition t) (omega arith) in
      let up_to = int_le-true (transition_at t n).second k passed in
      let start = start_past_is t (suc n) (omega arith) in
      let back : suc n - 1 ≡ n = omega arith in
      let same = ap (λ (j : ℕ). (transition_at t j).second) back in
      omega (arith, signed_arith)

  lasts_here : (k : ℤ) → has_started eras (count_at t k + 1) k ≡ false
  lasts_here k = elim (leb_tells (transition_count t) (count_at t k)) [
    | inl all ↦
        let none = slice_get_past eras (count_at t k + 1) (omega (arith, all.1)) in
        ap (λ (o : Option CronEra). started_by o k) none
    | inr more ↦
        let (e, get) = era_here (count_at t k + 1) (omega (arith, more.1)) in
        let starts = begins_next (count_at t k) e get in
        let stopped = prefix_len_stops (λ (r : Transition). int_le r.second k) t.transitions.items (no_transition t) (omega (arith, more.1)) in
        let late = int_le-false (transition_at t (count_at t k)).second k stopped in
        ap (λ (o : Option CronEra). started_by o k) get ∙ le_no e.starts k (omega (arith, signed_arith))
  ]

  -- the era that holds a second
  pub holder : (k : ℤ) → neg_ℤ (pos 9_223_372_036_854_775_808) ≤ℤ k → (e : CronEra) × HoldsSecond eras (count_at t k) e k
  holder k low =
      let bound : count_at t k ≤ transition_count t = prefix_len-le-length _ t.transitions.items in
      let (e, get) = era_here (count_at t k) bound in
      let start = (are (count_at t k) e get).start in
      let begun = begun_here k (count_at t k) low refl in
      (e, record { here = get; begun = omega (arith, signed_arith); lasts = lasts_here k })

  pub in_order : ¬ (HasDoubleTransition t) → IsHistory eras
  in_order apart = record {
    zones = λ i e get. let era = are i e get in (Posix era.rule, era.said);
    order = λ i a b here next.
        let first = (are i a here).start in
        let second = (are (i + 1) b next).start in
        let short = slice_get_within eras (i + 1) b next in
        let rise = start_rises t apart i (omega arith) in
        omega (arith, signed_arith);
  }

  pub begins_all : (n : ℤ) → IsTimestampNanos n → has_started eras 0 (floor_second n) ≡ true
  begins_all n range =
      let (e, get) = era_here 0 (omega arith) in
      let start = (are 0 e get).start in
      let (least, most) = range in
      ap (λ (o : Option CronEra). started_by o (floor_second n)) get ∙ le_yes e.starts (floor_second n) (omega (arith, signed_arith))

  pub shows_all : (n : ℤ) (i : ℕ) (e : CronEra) → HoldsSecond eras i e (floor_second n) → ShowsAt e.zone n (Table.offset_at t n).seconds
  shows_all n i e h = let era = are i e h.here in (Posix era.rule, era.said, era.past.shown n (place_is (floor_second n) i e h))
