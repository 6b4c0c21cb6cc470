-- Of the edges of a session's length: fewer than 2,197 bytes, and 2,197 without records.
use Rattle.std.specs.Prelude.{ℕ, ◌+◌, ◌≤◌, ◌<◌, true, List, [], ◌∷◌, ◌++◌, ◌≡◌, length}
use Rattle.std.proofs.Common.{ap, ◌∙◌, arith, length-append, get_or-append-add, take_at}
use Rattle.std.proofs.lemmas.Bool.{lt-leb}
use Rattle.std.proofs.Math.ListN.{get_or-append}
use Rattle.model.specs.Sizes.{card_size, fuse_at, least_session}
use Rattle.model.specs.Lists.{at}
use Rattle.model.specs.Log.{zoned, log_trailer}
use Rattle.model.specs.Numbers.{bytes_of}
use Rattle.laws.specs.NumberLaws.{number_append}
use Rattle.model.specs.Refusal.{session_length}
use Rattle.model.specs.Session.{start_of, count_of, frame, rejected, run}
use Rattle.model.specs.Single.{is_fuse_byte, staging_fits}
use Rattle.model.specs.At88sc1608.{at88sc1608}
use Rattle.laws.specs.StagingLaws.{staging_same}
use Rattle.properties.specs.AcceptedSession.{accepting, empty}
use Rattle.properties.specs.AcceptedSessionLaws.{well_framed, accepted_log}

pub short_rejected : (s space : List ℕ) → length s < least_session → run s space ≡ rejected session_length space
unfolding run frame
short_rejected s space h = rw (lt-leb _ _ h)

pub empty_log : (card space : List ℕ) → length card ≡ card_size → is_fuse_byte (at card fuse_at) ≡ true → staging_fits card ≡ true → least_session ≤ length space
    → run (empty card) space ≡ accepting (card ++ log_trailer zoned 0 0) space
empty_log card space l f g h =
    accepted_log s space []
    (record {
      frames = well;
      reads = rw (count, start, long);
      room = h;
    })
    ∙ ap (λ (c : List ℕ). accepting (c ++ log_trailer zoned 0 0) space) (take_at card tail card_size l)
  where
    tail : List ℕ
    tail = bytes_of 4 card_size ++ (bytes_of 2 0 ++ (0x53 ∷ 0x45 ∷ []))

    s : List ℕ
    s = card ++ tail

    long : length s ≡ least_session
    long = length-append card tail ∙ ap (λ (n : ℕ). n + 8) l

    at_tail : (i : ℕ) → at s (card_size + i) ≡ at tail i
    at_tail i = rw l at (get_or-append-add card tail i 0)

    start : start_of s ≡ card_size
    start = rw long (rw l at (number_append card tail 0 4))

    count : count_of s ≡ 0
    count = rw long (rw l at (number_append card tail 4 2))

    well : frame s ≡ 0
    well =
        well_framed s
        (record {
          long = rw long (omega arith);
          short = rw long (omega arith);
          first = rw long (at_tail 6);
          second = rw long (at_tail 7);
          low = rw start (omega arith);
          high = rw (start, long) (omega arith);
          few = rw count (omega arith);
          stage = rw (get_or-append card tail 0 fuse_at (rw l (omega arith))) f;
          staging = staging_same at88sc1608 card s (λ j p q. get_or-append card tail 0 j (rw l (omega arith))) ∙ g;
        })
