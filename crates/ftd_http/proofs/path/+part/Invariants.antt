use Rattle.ftd_http.proofs.path.+part.Given as goal

abbrev pub decreases-part : goal.decreases-part
decreases-part l = l.number
