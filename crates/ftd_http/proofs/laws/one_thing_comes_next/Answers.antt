use Rattle.ftd_http.proofs.CutFacts.{whole_or_nothing, whole_or_cut, whole_or_refused}
use Rattle.ftd_http.proofs.CutFacts.{nothing_or_cut, nothing_or_refused, cut_or_refused}
use Rattle.ftd_http.proofs.CutFacts.{status_one}
use Rattle.ftd_http.proofs.laws.one_thing_comes_next.Goals as goal

pub returns : goal.returns
returns c = record {
  whole_or_nothing = whole_or_nothing;
  whole_or_cut = whole_or_cut;
  whole_or_refused = whole_or_refused;
  nothing_or_cut = nothing_or_cut;
  nothing_or_refused = nothing_or_refused;
  cut_or_refused = cut_or_refused;
  one_status = status_one;
}
