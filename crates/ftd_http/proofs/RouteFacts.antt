-- What inserts of routes leave.
use Rattle.std.proofs.Common.{◌≡◌, ◌∙◌, ℕ, ◌+◌, ◌<◌, ◌≤◌, List, length, drop, get_or}
use Rattle.std.proofs.Common.{drop-cons, add-one, drop_of_length-le, Result, Ok, Err, ap, sym, map}
use Rattle.std.proofs.Common.{◌++◌, append_assoc, append-nil}
use Rattle.matchit.specs.Rows.{RowsOf}
use Rattle.matchit.specs.Router.{InsertsRead, RouteOf}
use Rattle.matchit.specs.Route.{Scan}
use Rattle.matchit.specs.declared.error.InsertError.{InsertError}
use Rattle.ftd_verbs.specs.Rows.{part_seen}
use Rattle.ftd_verbs.specs.declared.rows.Part.{Part}
use Rattle.ftd_verbs.specs.declared.rows.Verb.{Verb}
use Rattle.ftd_http.specs.Routes.{part_text, path_text, route_text, with_parsed, with_route}
use Rattle.ftd_http.specs.Routes.{with_verbs}

pub inserted : (p : Result Scan InsertError) (value : Verb) (old new : RowsOf (RouteOf Verb))
    (u : Unit {0}) → InsertsRead p value old new (Ok u) → new ≡ with_parsed p value old
inserted (Ok s) value old new u h = h.1
inserted (Err e) value old new u h = h.0

step : (rows : RowsOf (RouteOf Verb)) (verbs : List Verb) (i : ℕ) (d : Verb) → i < length verbs
    → with_verbs (drop i verbs) rows ≡ with_verbs (drop (i + 1) verbs)
    (with_route (route_text (get_or verbs i d)) (get_or verbs i d) rows)
unfolding with_verbs
step rows verbs i d less =
    rw add-one (ap (λ (z : List Verb). with_verbs z rows) (drop-cons verbs i d less))

-- one route more is put in
pub routes_next : (rows next whole : RowsOf (RouteOf Verb)) (verbs : List Verb) (i : ℕ) (d : Verb)
    → i < length verbs
    → next ≡ with_route (route_text (get_or verbs i d)) (get_or verbs i d) rows
    → with_verbs (drop i verbs) rows ≡ whole → with_verbs (drop (i + 1) verbs) next ≡ whole
routes_next rows next whole verbs i d less e w =
    ap (with_verbs (drop (i + 1) verbs)) e ∙ (sym (step rows verbs i d less) ∙ w)

-- all are put in
pub routes_end : (rows whole : RowsOf (RouteOf Verb)) (verbs : List Verb) (i : ℕ)
    → length verbs ≤ i → with_verbs (drop i verbs) rows ≡ whole → rows ≡ whole
unfolding with_verbs
routes_end rows whole verbs i over w =
    sym (ap (λ (z : List Verb). with_verbs z rows) (drop_of_length-le verbs over)) ∙ w

-- a path as a route is written, part by part
text_step : (text : List ℕ) (path : List Part) (i : ℕ) (d : Part) → i < length path
    → text ++ path_text (map part_seen (drop i path)) ≡ text ++ (part_text
    (part_seen (get_or path i d)) ++ path_text (map part_seen (drop (i + 1) path)))
text_step text path i d less =
    rw add-one (ap (λ (z : List Part). text ++ path_text (map part_seen z))
    (drop-cons path i d less))

pub text_next : (text next whole : List ℕ) (path : List Part) (i : ℕ) (d : Part)
    → i < length path → next ≡ text ++ part_text (part_seen (get_or path i d))
    → text ++ path_text (map part_seen (drop i path)) ≡ whole
    → next ++ path_text (map part_seen (drop (i + 1) path)) ≡ whole
text_next text next whole path i d less e w =
    ap (λ (z : List ℕ). z ++ path_text (map part_seen (drop (i + 1) path))) e
    ∙ (append_assoc text (part_text (part_seen (get_or path i d)))
    (path_text (map part_seen (drop (i + 1) path))) ∙ (sym (text_step text path i d less) ∙ w))

pub text_end : (text whole : List ℕ) (path : List Part) (i : ℕ) → length path ≤ i
    → text ++ path_text (map part_seen (drop i path)) ≡ whole → text ≡ whole
text_end text whole path i over w =
    sym (append-nil text)
    ∙ (sym (ap (λ (z : List Part). text ++ path_text (map part_seen z))
    (drop_of_length-le path over)) ∙ w)
