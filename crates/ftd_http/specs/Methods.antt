-- The methods of messages.
use Rattle.std.specs.Prelude.{ℕ, List, codes}
use Rattle.ftd_verbs.specs.declared.rows.Method.{Method}
use Rattle.ftd_verbs.specs.declared.rows.Method.TheVariants.{Get, Post, Put, Delete}

-- a method
abbrev pub method_text : Method → List ℕ
method_text Get = codes "GET"
method_text Post = codes "POST"
method_text Put = codes "PUT"
method_text Delete = codes "DELETE"
