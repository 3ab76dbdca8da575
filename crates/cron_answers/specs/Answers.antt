-- What the subcommands `next` and `between` answer to their words, which are the arguments.
use Rattle.std.specs.Prelude.{◌≡◌, ◌⊎◌, ℕ, ℤ, Bool, List, Option, Some, None, Result, Ok, Err}
use Rattle.std.specs.declared.alloc.Global.{Global}
use Rattle.std.specs.declared.io.Error.{Error}
use Rattle.std.specs.declared.vec.Vec.{Vec}
use Rattle.jiff_tz.specs.declared.timezone.TimeZone.{TimeZone}
use Rattle.cron_zones.specs.Opening.{Opens}
use Rattle.cron_zones.specs.Zones.{IsTimeZone}
use Rattle.cron_zones.specs.declared.open.Places.{Places}
use Rattle.cron_zones.specs.declared.zone.Zone.{Zone}
use Rattle.cron_answers.specs.Expressions.{IsReadAs, IsRefusedAs}
use Rattle.cron_answers.specs.Listings.{IsUnlisted, ListsAs}
use Rattle.cron_answers.specs.Instants.{IsInstant}
use Rattle.cron_answers.specs.Spans.{IsBackward, IsNoEnd, IsNothingWhole, IsSpan}
use Rattle.cron_answers.specs.QuartzNotes.{is_noted, IsNoted}
use Rattle.cron_replies.specs.Statuses.{Reporting}
use Rattle.cron_answers.specs.Troubles.{IsTold, zone_word}
use Rattle.cron_answers.specs.declared.answer.Request.{Request}
use Rattle.cron_answers.specs.declared.answer.Which.{Which}
use Rattle.cron_answers.specs.declared.answer.Which.TheVariants as which
use Rattle.cron_answers.specs.declared.span.Span.{Span}
use Rattle.cron_answers.specs.declared.expression.Expression.{Expression}
use Rattle.cron_answers.specs.declared.fires.Asked.{Asked}
use Rattle.cron_answers.specs.declared.fires.Asked.TheVariants.{Next, Back, Between}
use Rattle.cron_replies.specs.declared.status.Status.{Status}
use Rattle.cron_answers.specs.declared.trouble.Trouble.{Trouble}
use Rattle.cron_answers.specs.declared.trouble.Trouble.TheVariants as trouble

-- The fires asked for are those of the words, with the instants that the words name in the zone z
-- at the time `now`.
abbrev pub IsAsked : Which → TimeZone → ℤ → Asked → Type 0
IsAsked (which.Next count start) z now (Next t n) = IsInstant start.now z now (Some t.nanosecond) × (n ≡ count)
IsAsked (which.Back count end) z now (Back t n) = IsInstant end.now z now (Some t.nanosecond) × (n ≡ count)
IsAsked (which.Between span) z now (Between t u) = IsSpan span z now t.nanosecond u.nanosecond
IsAsked _ z now _ = ⊥

-- `word` is the first of the words that is no instant.
abbrev pub IsNoInstant : Which → TimeZone → ℤ → List ℕ → Type 0
IsNoInstant (which.Next count start) z now word = (word ≡ start.now) × IsInstant start.now z now None
IsNoInstant (which.Back count end) z now word = (word ≡ end.now) × IsInstant end.now z now None
IsNoInstant (which.Between span) z now word = IsNoEnd span z now word

-- the words are those of a span with the property P
abbrev pub IsOfSpan : (Span → Type 0) → Which → Type 0
IsOfSpan P (which.Between span) = P span
IsOfSpan P _ = ⊥

-- why no fires can be asked for: a word is no instant, or a span's words name none
abbrev pub IsNotAsked : Which → TimeZone → ℤ → Trouble → Type 0
IsNotAsked which z now (trouble.Instant word) = IsNoInstant which z now word.now
IsNotAsked which z now (trouble.Order first last) = IsOfSpan (λ span. IsBackward span z now first.now last.now) which
IsNotAsked which z now (trouble.Whole word) = IsOfSpan (λ span. IsNothingWhole span z now word.now) which
IsNotAsked which z now _ = ⊥

-- what a subcommand is given: what one read of the files may do, where zones are looked for, and
-- the present in nanoseconds since 1970
pub record Given (F : Type 0) : Type 1 where
  pub reads : F → List ℕ → Result (Vec ℕ Global) Error → F → Type 0
  pub places : Places
  pub now : ℤ

abbrev pub given : {F : Type 0} → (F → List ℕ → Result (Vec ℕ Global) Error → F → Type 0) → Places → ℤ → Given F
given reads places now = record { reads = reads; places = places; now = now }

-- The zone that a request names was opened, and it is z.
pub record IsOpened {F : Type 0} (g : Given F) (r : Request) (old : F) (z : TimeZone) (new : F) : Type 0 where
  pub zone : Zone
  pub opened : Opens g.reads r.zone.now g.places old (Ok zone) new
  pub is_time_zone : IsTimeZone zone z

-- The fires that the words ask for were listed, and `is_other` is whether Quartz would fire
-- otherwise. The writer held `was` before and `is` after.
pub record Lists {F : Type 0} (g : Given F) (r : Request) (old new : F) (is_other : Bool) (was is : Option (List ℕ)) (status : Status) : Type 0 where
  pub expression : Expression
  pub reads : IsReadAs r.quartz r.expression.now expression
  pub zone : TimeZone
  pub opened : IsOpened g r old zone new
  pub asked : Asked
  pub asks : IsAsked r.which zone g.now asked
  pub listed : ListsAs r expression asked zone was is status
  pub noted : is_noted r expression asked zone ≡ is_other

-- The expression was read, the zone opened, and the fires to be listed are known, but they can't be
-- listed.
abbrev pub IsUntold : {F : Type 0} → Given F → Request → F → F → Trouble → Type 0
IsUntold g r old new t =
    (e : Expression) × IsReadAs r.quartz r.expression.now e × (z : TimeZone) × IsOpened g r old z new
    × (asked : Asked) × IsAsked r.which z g.now asked × IsUnlisted r e asked z t

-- Why no fires can be listed: the first that is wrong of the expression, the zone, the instants,
-- their order, and the format of times; or memory ran out.
abbrev pub IsTrouble : {F : Type 0} → Given F → Request → F → F → Trouble → Type 0
IsTrouble g r old new (trouble.Expression text refusal) = (text.now ≡ r.expression.now) × IsRefusedAs r.quartz r.expression.now refusal × (new ≡ old)
IsTrouble g r old new (trouble.Zone text error) =
    (text.now ≡ zone_word g.places.tz r.zone.now) × ((e : Expression) × IsReadAs r.quartz r.expression.now e) × Opens g.reads r.zone.now g.places old (Err error) new
IsTrouble g r old new (trouble.Format word) = IsUntold g r old new (trouble.Format word)
IsTrouble g r old new trouble.NoMemory = IsUntold g r old new trouble.NoMemory
IsTrouble g r old new other = ((e : Expression) × IsReadAs r.quartz r.expression.now e) × ((z : TimeZone) × IsOpened g r old z new × IsNotAsked r.which z g.now other)

-- The fires were listed, and a notice was written if Quartz fires otherwise. Or they couldn't be,
-- and a complaint was written, and nothing else.
abbrev pub Answers : {F W C : Type 0} → Given F → Request → Reporting W → Reporting C → F × W × C → Status → F × W × C → Type 0
Answers g r out complaints old status new =
    ((is_other : Bool) × (listed : Status) × out (Lists g r old.0 new.0 is_other) old.1 listed new.1
    × IsNoted is_other listed complaints old.2 status new.2)
    ⊎ ((t : Trouble) × IsTrouble g r old.0 new.0 t × complaints (IsTold t) old.2 status new.2 × (new.1 ≡ old.1))
