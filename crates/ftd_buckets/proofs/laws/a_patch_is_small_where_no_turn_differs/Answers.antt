use Rattle.ftd_buckets.proofs.Needed.{four_at_most, one_at_most, none_changed}
use Rattle.ftd_buckets.proofs.laws.a_patch_is_small_where_no_turn_differs.Goals as goal

pub returns : goal.returns
returns c = record {
  lines = λ form day before after holidays fed patch change same is. none_changed day before after
      patch.years change same is.replaces.years;
  four = λ form day before after holidays fed patch change same is last. four_at_most form day
      before after holidays fed patch change is last
      (none_changed day before after patch.years change same is.replaces.years);
  one = λ form day before after holidays fed patch line change same is last. one_at_most form day
      before after holidays fed patch line change is last
      (none_changed day before after patch.years change same is.replaces.years);
}
