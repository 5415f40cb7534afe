-- `Listing` is the loop of `put_steps` in lists.
mod Listing
