use Rattle.cron_windows.proofs.LawLemmas.{latest-opens, opens-latest}
use Rattle.cron_windows.proofs.laws.latest_fire_decides.Goals as goal

pub returns : goal.returns
returns c = λ opens closes t. (latest-opens opens closes t, λ (n, one, le, latest). opens-latest opens closes t n one le latest)
