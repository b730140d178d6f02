use Rattle.std.proofs.Common.{◌≡◌, take}
use Rattle.ftd_questions.specs.Nearest.{names_of, texts_of}
use Rattle.ftd_questions.proofs.meant.names_of.Given as goal

abbrev pub invariant-loop-account : goal.invariant-loop-account
invariant-loop-account l =
    texts_of l.names.items ≡ names_of (take l.account-index l.accounts)
