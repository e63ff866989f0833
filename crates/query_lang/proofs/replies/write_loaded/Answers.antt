use Rattle.query_lang.specs.Replies.{loaded_text}
use Rattle.query_lang.proofs.replies.write_loaded.Goals as goal

pub returns : goal.returns
unfolding loaded_text
returns g c =
    rw (
      ← c.routers.ensures.value,
      ← c.links.ensures.value,
      ← c.format.ensures.text,
      ← c.as_bytes.ensures.value,
      ← c.format-2.ensures.text,
      ← c.as_bytes-2.ensures.value,
      ← c.format-3.ensures.text,
      ← c.as_bytes-3.ensures.value,
    ) c.put_pieces.ensures
