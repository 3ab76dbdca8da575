-- Times of a day that have no reading, passed many at once.
use Rattle.std.proofs.Common.{◌≡◌, ℕ, ◌+◌, ◌*◌, ◌/◌, ◌<◌, false, nat_lt, [], pos, Option, Some, None, is_some, refl, sym, subst, ◌∙◌, inl, inr, arith}
use Rattle.std.proofs.lemmas.Bool.{and_left, cases_Bool, cases_lt, le-ltb}
use Rattle.jiff_core.proofs.SignedLemmas.{signed_arith}
use Rattle.jiff_core.specs.declared.Offset.{Offset}
use Rattle.jiff_tz.specs.declared.timezone.TimeZone.{TimeZone}
use Rattle.cron_units.specs.declared.way.Way.{Way}
use Rattle.cron_units.specs.declared.way.Way.TheVariants.{Ahead, Back}
use Rattle.cron_units.specs.Nearest.{LiesFrom, Precedes, IsNearest}
use Rattle.cron_units.specs.Sets.{Sets}
use Rattle.cron_moments.specs.Civil.{civil}
use Rattle.cron_moments.specs.Found.{items_if_any}
use Rattle.cron_moments.specs.Readings.{readings}
use Rattle.cron_moments.specs.declared.readings.Found.{Found}
use Rattle.cron_clocks.specs.Steady.{IsKnown, readings_at}
use Rattle.cron_clocks.specs.declared.stretch.Stretch.{Stretch}
use Rattle.cron_time.specs.Matches.{matches}
use Rattle.cron_time.specs.Seconds as seconds
use Rattle.cron_time.specs.Search.{items_of, stands}
use Rattle.cron_time.specs.Search.Inner.Blocks.{AllFail, ReachesIfAny}
use Rattle.cron_time.specs.Search.Inner.Numbers.{beyond, matches_second, stands_at}
use Rattle.cron_time.specs.Search.Inner.Gaps.{AreTogether, LeadsPast}
use Rattle.cron_time.proofs.Searches.BlockLemmas.{block_each, one_each}
use Rattle.cron_time.proofs.Searches.StandLemmas.{second_fails, silent}
use Rattle.cron_time.proofs.Searches.TimesLemmas.{AtTime}
use Rattle.cron_time.proofs.Searches.WayLemmas.{side, before, same, after, lies_or_before, lies_past}

-- ---- a stretch without readings

none_at : (earlier later : Option Offset) (a b : ℕ) → readings_at a earlier later ≡ [] → readings_at b earlier later ≡ []
none_at None later a b h = refl
none_at (Some o) None a b h = cc
none_at (Some o) (Some p) a b h = cc

-- where one civil second of it has none, none has
pub together_silent : (z : TimeZone) (st : Stretch) (a b : ℕ) → IsKnown z st → readings z a ≡ [] → AreTogether st a b → readings z b ≡ []
together_silent z st a b known none t =
    known b t.other_low t.other_high ∙ none_at st.earlier st.later a b (sym (known a t.low t.high) ∙ none)

in_gap : (s : Sets) (z : TimeZone) (day t : ℕ) → readings z (day * 86_400 + t) ≡ [] → stands_at s z day t ≡ false
unfolding seconds.items_of
in_gap s z day t none =
    silent s z day t (elim (cases_Bool (matches s (civil (day * 86_400 + t)))) [ inl inside ↦ rw inside none | inr out ↦ rw out refl ])

-- a civil second of which nothing is told has none
pub nothing_told : (z : TimeZone) (c : ℕ) (o : Option Found) → items_if_any o ≡ readings z c → is_some o ≡ false → readings z c ≡ []
nothing_told z c None e h = sym e
nothing_told z c (Some f) e h = cc

-- ---- past it

pub day_in_gap : (way : Way) (s : Sets) (z : TimeZone) (st : Stretch) (day time : ℕ) → IsKnown z st → readings z (day * 86_400 + time) ≡ []
    → ((t : ℕ) → LiesFrom way (beyond way time) t → t < 86_400 → AreTogether st (day * 86_400 + time) (day * 86_400 + t))
    → AllFail way (stands_at s z day) (beyond way time)
day_in_gap way s z st day time known none together t lies =
    elim (cases_lt t 86_400) [
      | inl lt ↦ in_gap s z day t (together_silent z st (day * 86_400 + time) (day * 86_400 + t) known none (together t lies lt))
      | inr ge ↦ and_left (nat_lt t 86_400) (stands s z (day * 86_400 + t)) (le-ltb t 86_400 ge)
    ]

farther : (way : Way) (time from n : ℕ) → LiesFrom way (beyond way time) from → LiesFrom way (pos from) n → LiesFrom way (beyond way time) n
farther Ahead time from n a b = omega (arith, signed_arith)
farther Back time from n a b = omega (arith, signed_arith)

pub leads_past : (way : Way) (s : Sets) (z : TimeZone) (st : Stretch) (day time from : ℕ) (next : Option ℕ) → IsKnown z st
    → readings z (day * 86_400 + time) ≡ [] → LiesFrom way (beyond way time) from
    → ((t : ℕ) → LiesFrom way (beyond way time) t → Precedes way t from → AreTogether st (day * 86_400 + time) (day * 86_400 + t))
    → IsNearest way (matches_second s) (pos from) next → LeadsPast way s z day time next
leads_past way s z st day time from None known none past together h = λ t lies.
    elim (lies_or_before way from t) [
      | inl there ↦ second_fails s z day t (h t there)
      | inr early ↦ in_gap s z day t (together_silent z st (day * 86_400 + time) (day * 86_400 + t) known none (together t lies early))
    ]
leads_past way s z st day time from (Some n) known none past together h = record {
  member = h.passes;
  lies = farther way time from n past h.lies;
  between = λ t lies before_n. elim (lies_or_before way from t) [
    | inl there ↦ second_fails s z day t (h.nearest t there before_n)
    | inr early ↦ in_gap s z day t (together_silent z st (day * 86_400 + time) (day * 86_400 + t) known none (together t lies early))
  ];
}

-- a search that has come to a time goes on where it leads
pub times_led : (way : Way) (s : Sets) (z : TimeZone) (day from time : ℕ) (next : Option ℕ) → AtTime way s z day from time
    → stands_at s z day time ≡ false → LeadsPast way s z day time next
    → ReachesIfAny way 1 (matches_second s) (stands_at s z day) (pos from) (pos from) next
times_led way s z day from time None at fails h = λ n lies.
    elim (side way time (n / 1)) [
      | before lt ↦ at.reached.failed n lies lt
      | same e ↦ block_each way (stands_at s z day) (pos from) time fails n lies e
      | after past gt ↦ let P : ℕ → Type 0 = LiesFrom way (beyond way time) in h n (subst P (one_each n) past)
    ]
times_led way s z day from time (Some next) at fails h = record {
  block = h.member;
  lies = lies_past way (pos from) time next at.reached.lies h.lies;
  failed = λ n lies early. elim (side way time (n / 1)) [
    | before lt ↦ at.reached.failed n lies lt
    | same e ↦ block_each way (stands_at s z day) (pos from) time fails n lies e
    | after past gt ↦
        let P : ℕ → Type 0 = LiesFrom way (beyond way time) in
        let Q : ℕ → Type 0 = λ k. Precedes way k next in
        h.between n (subst P (one_each n) past) (subst Q (one_each n) early)
  ];
}
