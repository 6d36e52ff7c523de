use Rattle.fleet_model.proofs.Reports.{reports_accepted}
use Rattle.fleet_model.proofs.journal_laws.allowed_orders_report.Goals as goal

pub returns : goal.returns
returns c = record { accepted = λ s order good h. reports_accepted s order good.plan h }
