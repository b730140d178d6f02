use Rattle.std.proofs.Common.{◌≡◌, false, inl, inr, refl, sym, ◌∙◌, arith}
use Rattle.sqlite.specs.State.{HasCleanDisk}
use Rattle.sqlite.specs.Held.{state}
use Rattle.ftd_setup.specs.declared.opening.Change.TheVariants.{MigrateFirst, MigrateSecond}
use Rattle.ftd_setup.specs.Versions.{has_later}
use Rattle.ftd_setup.proofs.Surviving.{told, migrating_survives, migrated_opens}
use Rattle.ftd_setup.proofs.opening.Found.open_tagged.Goals as goal

pub returns-in_err-carry_out-in-Some-eq1-clause-crash :
    goal.returns-in_err-carry_out-in-Some-eq1-clause-crash
returns-in_err-carry_out-in-Some-eq1-clause-crash g c =
    migrating_survives MigrateFirst 1 _ _ _ _ (λ db did. did) c.read_tag.ensures.crash
    c.in_ok-rows.ensures.shown (rw (c.deref.ensures.value, c.in-Some-eq1.field-0-test) at
    (c.in-Some-eq1.ensures.read.1)) c.carry_out.ensures.crash

pub returns-in-Some-eq1-clause-crash : goal.returns-in-Some-eq1-clause-crash
returns-in-Some-eq1-clause-crash g c =
    migrating_survives MigrateFirst 1 _ _ _ _ (λ db did. did) c.read_tag.ensures.crash
    c.in_ok-rows.ensures.shown (rw (c.deref.ensures.value, c.in-Some-eq1.field-0-test) at
    (c.in-Some-eq1.ensures.read.1)) c.carry_out.ensures.crash

pub returns-in-Some-eq1-clause-read : goal.returns-in-Some-eq1-clause-read
returns-in-Some-eq1-clause-read g c clean =
    let old = state g.S.Store c.args.self.now.conn in
    let mid = state g.S.Store c.read_tag.new.self.conn in
    let new = state g.S.Store c.carry_out.new.self.conn in
    let clean_mid : HasCleanDisk mid = omega (arith, c.carry_out.ensures.crash.clean) in
    let free : has_later mid.now.schema 1 ≡ false =
    sym (rw (c.as_slice.ensures, c.schema.ensures.value) at c.has_any-taken_first.ensures)
    ∙ c.if-not-taken_first.true in
    migrated_opens MigrateFirst 1 old mid new (λ db did. did) (inl refl)
    (told old mid _ 1 (c.in_ok-rows.ensures.shown clean_mid)
    (rw (c.deref.ensures.value, c.in-Some-eq1.field-0-test) at (c.in-Some-eq1.ensures.read.1)))
    free (c.in_ok-carry_out-in-Some-eq1.ensures.done clean)

pub returns-in_err-carry_out-in-Some-eq2-clause-crash :
    goal.returns-in_err-carry_out-in-Some-eq2-clause-crash
returns-in_err-carry_out-in-Some-eq2-clause-crash g c =
    migrating_survives MigrateSecond 2 _ _ _ _ (λ db did. did) c.read_tag.ensures.crash
    c.in_ok-rows.ensures.shown (rw (c.deref.ensures.value, c.in-Some-eq2.field-0-test) at
    (c.in-Some-eq2.ensures.read.1)) c.carry_out-in-Some-eq2.ensures.crash

pub returns-in-Some-eq2-clause-crash : goal.returns-in-Some-eq2-clause-crash
returns-in-Some-eq2-clause-crash g c =
    migrating_survives MigrateSecond 2 _ _ _ _ (λ db did. did) c.read_tag.ensures.crash
    c.in_ok-rows.ensures.shown (rw (c.deref.ensures.value, c.in-Some-eq2.field-0-test) at
    (c.in-Some-eq2.ensures.read.1)) c.carry_out-in-Some-eq2.ensures.crash

pub returns-in-Some-eq2-clause-read : goal.returns-in-Some-eq2-clause-read
returns-in-Some-eq2-clause-read g c clean =
    let old = state g.S.Store c.args.self.now.conn in
    let mid = state g.S.Store c.read_tag.new.self.conn in
    let new = state g.S.Store c.carry_out-in-Some-eq2.new.self.conn in
    let clean_mid : HasCleanDisk mid = omega (arith, c.carry_out-in-Some-eq2.ensures.crash.clean) in
    let free : has_later mid.now.schema 2 ≡ false =
    sym (rw (c.as_slice-2.ensures, c.schema-2.ensures.value) at c.has_any-taken_second.ensures)
    ∙ c.if-not-taken_second.true in
    migrated_opens MigrateSecond 2 old mid new (λ db did. did) (inr refl)
    (told old mid _ 2 (c.in_ok-rows.ensures.shown clean_mid)
    (rw (c.deref.ensures.value, c.in-Some-eq2.field-0-test) at (c.in-Some-eq2.ensures.read.1)))
    free (c.in_ok-carry_out-in-Some-eq2.ensures.done clean)
