use Rattle.ftd_forms.proofs.sent.asked_response.Goals as goal

pub returns : goal.returns
returns g c = (
  c.do_job-end.result,
  rw c.job_of.ensures at c.do_job-end.ensures,
  c.end_response.ensures,
)
