use Rattle.std.proofs.Common.{lit<, refl}
use Rattle.cron_tab_warnings.specs.Files.{AllStandIn}
use Rattle.cron_tab_warnings.specs.declared.files.TheConstants.{LINE_WARNINGS}
use Rattle.cron_tab_warnings.specs.declared.files.LineWarning.TheVariants.{IgnoredZone, LongCommand, ReturnAtEnd, TwoBackslashes, DashInFront, PercentSign, ShortenedValue, LongSetting, ManyLines, NoLineFeed}
use Rattle.cron_tab_warnings.proofs.files.all_line_warnings_are_listed.Goals as goal

listed : AllStandIn LINE_WARNINGS
listed IgnoredZone = (0, lit< tt, refl)
listed LongCommand = (1, lit< tt, refl)
listed ReturnAtEnd = (2, lit< tt, refl)
listed TwoBackslashes = (3, lit< tt, refl)
listed DashInFront = (4, lit< tt, refl)
listed PercentSign = (5, lit< tt, refl)
listed ShortenedValue = (6, lit< tt, refl)
listed LongSetting = (7, lit< tt, refl)
listed ManyLines = (8, lit< tt, refl)
listed NoLineFeed = (9, lit< tt, refl)

pub returns : goal.returns
returns c = listed
