-- A database that was opened rests in what its tables stood for.
use Rattle.std.proofs.Common.{◌≡◌, ◌≤◌, ◌∙◌, inl, inr, sym, ap, subst, ℕ, true, false, List, Ok}
use Rattle.std.proofs.Common.{Err}
use Rattle.std.proofs.Common.{arith}
use Rattle.std.specs.Prelude.{pos, Result, IfOk}
use Rattle.std.proofs.lemmas.Bool.{false≢true}
use Rattle.sqlite.specs.Does.{lacks_sequence}
use Rattle.sqlite.specs.Effect.{Database}
use Rattle.sqlite.specs.Held as connection
use Rattle.sqlite.specs.State as database
use Rattle.sqlite.specs.State.{HasCleanDisk}
use Rattle.sqlite.specs.Store as store
use Rattle.ftd_sql.specs.Places.{Holds}
use Rattle.ftd_sql.specs.declared.TableName.TheVariants.{Metas}
use Rattle.ftd_sql.specs.Standing.{Tables, StandsAs}
use Rattle.ftd_sql.specs.Beginnings.{tag_row, HasVersion, IsEarlier}
use Rattle.ftd_sql.specs.Making.{IsFree}
use Rattle.ftd_sql.specs.Names.{name_of}
use Rattle.ftd_sql.specs.Layout.{table_of}
use Rattle.ftd_sql.specs.Rows.{MetaRow, cells_of}
use Rattle.ftd_setup.specs.Versions.{IsNew, Opening, Opens, has_later}
use Rattle.ftd_setup.specs.declared.opening.UnopenedDatabase.{UnopenedDatabase}
use Rattle.ftd_machine.specs.State.{State, nothing}
use Rattle.ftd_machine.specs.Sound.{IsSound}
use Rattle.ftd_entries.specs.Standing.{StandsForEarlier}
use Rattle.ftd_entries.specs.Words.{IsKept}
use Rattle.ftd_entries.proofs.Ends.{made_stands, migrated_kept}
use Rattle.ftd_store.specs.Opened.{IsOver}
use Rattle.ftd_store.specs.Seen.{seen}
use Rattle.ftd_store.specs.declared.store.Store.{Store}
use Rattle.ftd_desk.specs.Desks.{store_of, Held, held, Rests, Keeps}
use Rattle.ftd_desk.specs.Opened as opened
use Rattle.ftd_desk.specs.declared.desk.Desk.{Desk}

-- no table of an earlier version is one of version 3
one_version : (metas : List MetaRow) (version : ℕ) → IsEarlier version → HasVersion metas version
    → HasVersion metas 3 → ⊥
one_version metas version (inl is) first second =
    let earlier : HasVersion metas 1 = rw is at first in
    let tags : tag_row 1 ≡ tag_row 3 = cc in
    let versions : pos 1 ≡ pos 3 = ap (λ (mark : MetaRow). mark.version) tags in
    cc
one_version metas version (inr is) first second =
    let earlier : HasVersion metas 2 = rw is at first in
    let tags : tag_row 2 ≡ tag_row 3 = cc in
    let versions : pos 2 ≡ pos 3 = ap (λ (mark : MetaRow). mark.version) tags in
    cc

-- each earlier version has the table of the mark
has_metas : (version : ℕ) → IsEarlier version → 1 ≤ version
has_metas version (inl is) = omega arith
has_metas version (inr is) = omega arith

module _ (old new : database.State) (opened : Opening old new (Ok tt)) (clean : HasCleanDisk new)
  where
    -- the version that the database was opened by is that of its mark
    by_mark : (metas : List MetaRow)
        → Holds true old.now (name_of Metas) (table_of Metas) (cells_of Metas) metas
        → Opens old new (HasVersion metas) (has_later old.now.schema) (Ok tt)
    by_mark metas mark =
        opened.version metas (record {
          at = mark.at;
          tree = mark.tree;
          place = mark.place;
          spared = λ never. absurd (false≢true never);
          rows = mark.rows;
        }) clean

    pub rests_new : IsNew old.now.schema → IsFree old.now.schema → Rests new nothing
    rests_new none free =
        let did = opened.new_database none free clean in
        record { kept = made_stands old.now new.now did.0; committed = did.1 }

    pub rests_kept : (s : State) → Rests old s → Rests new s
    rests_kept s rests =
        let kept = rests.kept in
        elim (by_mark (kept.tables Metas) (kept.stands Metas)) [
          | inl same ↦
              let shows = same.1.0 in
              record {
                kept = subst (λ (db : Database). IsKept db s) (sym shows.now_is) kept;
                committed = shows.committed_is ∙ rests.committed ∙ sym shows.now_is;
              }
          | inr moved ↦
              absurd (one_version (kept.tables Metas) moved.0 moved.1 moved.2
              kept.stands_for.entries.meta)
        ]

    pub rests_migrated : (version : ℕ) (t : Tables) (s : State) → IsEarlier version
        → StandsAs version old.now t → StandsForEarlier version t s → IsSound s
        → lacks_sequence old.now.schema ≡ false → Rests new s
    rests_migrated version t s earlier stands stands_for sound counted =
        elim (by_mark (t Metas) (stands Metas (has_metas version earlier))) [
          | inl same ↦ absurd (one_version (t Metas) version earlier stands_for.meta same.0)
          | inr moved ↦ record {
            kept = migrated_kept old.now new.now version t s moved.4 earlier stands stands_for sound
                counted;
            committed = moved.5;
          }
        ]

-- so a desk over it stands for that
pub desk_opens : {S : Type 0} (g : store.Ghosts S) (old : database.State) (conn : connection.Held S)
    (over : Store S) (desk : Desk S) → Opening old (connection.state g conn) (Ok tt)
    → IsOver over conn → store_of desk ≡ over
    → ((s : State) → Rests (seen g over) s → Keeps (held g desk) s) → opened.Opens old (held g desk)
desk_opens g old conn over desk opening is_over is_of keeps =
    let same : conn ≡ desk.store.conn = is_over ∙ ap (λ (it : Store _). it.conn) (sym is_of) in
    let new = seen g desk.store in
    let opens : Opening old new (Ok tt) =
    subst (λ (it : connection.Held _). Opening old (connection.state g it) (Ok tt)) same opening in
    let keeps_of : (s : State) → Rests new s → Keeps (held g desk) s =
    subst (λ (it : Store _). (s : State) → Rests (seen g it) s → Keeps (held g desk) s) (sym is_of)
    keeps in
    record {
      new_database = λ clean none free. keeps_of nothing (rests_new old new opens clean none free);
      kept = λ clean s rests. keeps_of s (rests_kept old new opens clean s rests);
      migrated = λ clean version t s earlier stands stands_for sound counted. keeps_of s
          (rests_migrated old new opens clean version t s earlier stands stands_for sound counted);
    }

-- and where a desk stood for a state that rests in the database, the new one stands for it
pub desk_stands : {S : Type 0} (g : store.Ghosts S) (old : Held) (conn : connection.Held S)
    (result : Result (Desk S) (UnopenedDatabase S))
    → ((s : State) → Keeps old s → Rests (connection.state g conn) s)
    → IfOk result (λ desk. opened.Opens (connection.state g conn) (held g desk))
    → IfOk result (λ desk. HasCleanDisk (held g desk).db → (s : State) → Keeps old s
    → Keeps (held g desk) s)
desk_stands g old conn (Ok desk) rests opens = λ clean s keeps. opens.kept clean s (rests s keeps)
desk_stands g old conn (Err refused) rests opens = tt
