mod Characters
