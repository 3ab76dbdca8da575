-- What contracts see of the forms of days and of the words of fields.
use Rattle.cron_quartz.specs.Days as days
use Rattle.cron_quartz.specs.Days.{dates, before_last, nearest_workday, last_workday, weekdays, last_weekday, nth_weekday}
use Rattle.cron_quartz.specs.Quartz as quartz
use Rattle.cron_quartz.specs.declared.days.Days.TheVariants.{Dates, BeforeLast, NearestWorkday, LastWorkday, Weekdays, LastWeekday, NthWeekday}
use Rattle.cron_quartz.specs.declared.days.Days.{Days}
use Rattle.cron_quartz.specs.declared.texts.Texts.{Texts}
use Rattle.std.specs.Option.{option_map}

abbrev pub days_view : Days → days.Days
days_view (Dates set) = dates set
days_view (BeforeLast k) = before_last k
days_view (NearestWorkday n) = nearest_workday n
days_view (LastWorkday k) = last_workday k
days_view (Weekdays set) = weekdays set
days_view (LastWeekday w) = last_weekday w
days_view (NthWeekday w n) = nth_weekday w n

abbrev pub texts_view : Texts → quartz.Texts
texts_view t = record {
  second = t.second.now;
  minute = t.minute.now;
  hour = t.hour.now;
  day_of_month = t.day_of_month.now;
  month = t.month.now;
  day_of_week = t.day_of_week.now;
  year = option_map (λ word. word.now) t.year;
}
