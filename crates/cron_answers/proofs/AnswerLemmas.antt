-- Why no fires can be asked for.
use Rattle.std.proofs.Common.{ℤ}
use Rattle.jiff_tz.specs.declared.timezone.TimeZone.{TimeZone}
use Rattle.cron_answers.specs.Answers.{Given, IsAsked, IsNotAsked, IsOpened, IsTrouble}
use Rattle.cron_answers.specs.Expressions.{IsReadAs}
use Rattle.cron_answers.specs.Listings.{IsUnlisted}
use Rattle.cron_answers.specs.declared.fires.Asked.{Asked}
use Rattle.cron_answers.specs.declared.answer.Request.{Request}
use Rattle.cron_answers.specs.declared.expression.Expression.{Expression}
use Rattle.cron_answers.specs.Spans.{IsNoSpan}
use Rattle.cron_answers.specs.Subjects.{IsNoSubject}
use Rattle.cron_answers.specs.declared.answer.Which.TheVariants.{Between}
use Rattle.cron_answers.specs.declared.span.Span.{Span}
use Rattle.cron_answers.specs.declared.trouble.Trouble.{Trouble}
use Rattle.cron_answers.specs.declared.trouble.Trouble.TheVariants.{Expression as Unread, Zone, Instant, Whole, Order, Format, NoMemory}

-- the expression is none, or the zone can't be had
pub no_subject : {F : Type 0} (g : Given F) (r : Request) (old new : F) (t : Trouble)
    → IsNoSubject g.reads g.places r.quartz r.expression.now r.zone.now old t new → IsTrouble g r old new t
no_subject g r old new (Unread text refusal) h = h
no_subject g r old new (Zone text error) h = h
no_subject g r old new (Instant word) h = absurd h
no_subject g r old new (Whole word) h = absurd h
no_subject g r old new (Order first last) h = absurd h
no_subject g r old new (Format word) h = absurd h
no_subject g r old new NoMemory h = absurd h

-- the expression was read and the zone opened, and then it was found
pub not_asked : {F : Type 0} (g : Given F) (r : Request) (old new : F) (t : Trouble) (e : Expression) (z : TimeZone)
    → IsReadAs r.quartz r.expression.now e → IsOpened g r old z new → IsNotAsked r.which z g.now t → IsTrouble g r old new t
not_asked g r old new (Unread text refusal) e z reads opened h = absurd h
not_asked g r old new (Zone text error) e z reads opened h = absurd h
not_asked g r old new (Instant word) e z reads opened h = ((e, reads), (z, opened, h))
not_asked g r old new (Whole word) e z reads opened h = ((e, reads), (z, opened, h))
not_asked g r old new (Order first last) e z reads opened h = ((e, reads), (z, opened, h))
not_asked g r old new (Format word) e z reads opened h = absurd h
not_asked g r old new NoMemory e z reads opened h = absurd h

-- the words are those of a span, and name none
pub no_span : (span : Span) (z : TimeZone) (now : ℤ) (t : Trouble) → IsNoSpan span z now t → IsNotAsked (Between span) z now t
no_span span z now (Unread text refusal) h = absurd h
no_span span z now (Zone text error) h = absurd h
no_span span z now (Instant word) h = h
no_span span z now (Whole word) h = h
no_span span z now (Order first last) h = h
no_span span z now (Format word) h = absurd h
no_span span z now NoMemory h = absurd h

-- the fires to be listed are known, and then it was found that they can't be listed
pub unlisted : {F : Type 0} (g : Given F) (r : Request) (old new : F) (t : Trouble) (e : Expression) (z : TimeZone) (asked : Asked)
    → IsReadAs r.quartz r.expression.now e → IsOpened g r old z new → IsAsked r.which z g.now asked → IsUnlisted r e asked z t → IsTrouble g r old new t
unlisted g r old new (Unread text refusal) e z asked reads opened asks h = absurd h
unlisted g r old new (Zone text error) e z asked reads opened asks h = absurd h
unlisted g r old new (Instant word) e z asked reads opened asks h = absurd h
unlisted g r old new (Whole word) e z asked reads opened asks h = absurd h
unlisted g r old new (Order first last) e z asked reads opened asks h = absurd h
unlisted g r old new (Format word) e z asked reads opened asks h = (e, reads, z, opened, asked, asks, h)
unlisted g r old new NoMemory e z asked reads opened asks h = (e, reads, z, opened, asked, asks, h)
