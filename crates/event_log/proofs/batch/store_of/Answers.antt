use Rattle.event_log.proofs.Storing.{store_made}
use Rattle.event_log.proofs.batch.store_of.Goals as goal

pub returns-in-Ok : goal.returns-in-Ok
returns-in-Ok g c =
    let wrote = c.in-Ok.ensures in
    store_made g.C.Column.format (g.C.Column.content c.args.column) c.new-bytes.result.items c.write_bytes.new.writer.items c.new-bytes.ensures.items wrote.ok wrote.counted (wrote.accepted c.requires.sound) (wrote.content c.requires.sound)
