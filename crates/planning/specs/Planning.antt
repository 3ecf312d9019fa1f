-- What running both rules gives: of each plan the rounds written and the fetches, and how many bits its sheet has. Assumes nothing.
use Rattle.model.specs.Job.{Job}
use Rattle.model.specs.Rules.{short, sparing}
use Rattle.model.specs.Plans.{schedule_of}
use Rattle.driving.specs.Driving.{totals_of}
use Rattle.planning.specs.declared.Plans.{Plans}

-- the short and the sparing plan of a job
unfoldable pub plans_of : Job → Plans
unfolding totals_of schedule_of short sparing
plans_of j = record { short = totals_of (schedule_of short j); sparing = totals_of (schedule_of sparing j) }
