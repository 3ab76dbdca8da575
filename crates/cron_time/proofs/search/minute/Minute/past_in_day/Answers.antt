use Rattle.std.proofs.Common.{◌≡◌, ◌+◌, ◌*◌, ◌/◌, ◌%◌, arith}
use Rattle.cron_time.proofs.Searches.MinuteLemmas.{end_in_day, later_in_day, times_end, times_next}
use Rattle.cron_time.proofs.search.minute.Minute.past_in_day.Goals as goal

pub returns-in_err-minute-clause-next : goal.returns-in_err-minute-clause-next
returns-in_err-minute-clause-next c =
    let m = c.args.self.now in
    let time : (m.first + c.args.place) % 86_400 ≡ (m.hour * 60 + m.minute) * 60 + c.args.place =
    omega (arith, m.starts, m.of_day, m.of_hour, c.requires.place) in
    rw c.from_residual.ensures (end_in_day c.args.way c.args.members.now _ _ time
    (times_end c.args.way c.args.members.now (m.hour * 60 + m.minute) c.args.place c.requires.place c.in_default.ensures.nearest
    c.in_err-minute.ensures.nearest))

pub returns-clause-next : goal.returns-clause-next
returns-clause-next c =
    let m = c.args.self.now in
    let n = c.in_ok-minute.minute in
    let r = c.in_ok-next.next in
    let fits = c.in_ok-next.ensures.bound.1 in
    let time : (m.first + c.args.place) % 86_400 ≡ (m.hour * 60 + m.minute) * 60 + c.args.place =
    omega (arith, m.starts, m.of_day, m.of_hour, c.requires.place) in
    let later : (n.first + r) % 86_400 ≡ (n.hour * 60 + n.minute) * 60 + r = omega (arith, n.starts, n.of_day, n.of_hour, fits) in
    let day : (n.first + r) / 86_400 ≡ (m.first + c.args.place) / 86_400 =
    omega (arith, n.starts, n.of_day, n.of_hour, fits, m.starts, m.of_day, m.of_hour, c.requires.place, c.in_ok-minute.ensures.day) in
    later_in_day c.args.way c.args.members.now _ _ _ _ time later day
    (times_next c.args.way c.args.members.now (m.hour * 60 + m.minute) c.args.place (n.hour * 60 + n.minute) c.extreme.result r c.requires.place
    c.in_default.ensures.nearest c.in_ok-minute.ensures.nearest c.extreme.ensures.extreme fits c.in_ok-next.ensures.nearest)
